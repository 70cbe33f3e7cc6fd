use Rattle.std.proofs.Common.{◌≡◌}
use Rattle.std.specs.Prelude.{not}
use Rattle.orc_words.specs.declared.place.Word.TheVariants.{Root}
use Rattle.orc_core.specs.Counts.{links_to}
use Rattle.orc_core.specs.Machine.{word_in}
use Rattle.orc_sound.proofs.Passed.{passed}
use Rattle.orc_sound.proofs.agent_tests.no_root_links.Given as goal

abbrev pub invariant-loop-root : goal.invariant-loop-root
invariant-loop-root l = l.none ≡ passed l.root (λ i. not (links_to (word_in l.state (Root i)) l.row))
