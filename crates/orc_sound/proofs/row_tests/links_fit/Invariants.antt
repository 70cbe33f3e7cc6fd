use Rattle.std.proofs.Common.{◌≡◌}
use Rattle.orc_words.specs.Places.{link_at}
use Rattle.orc_core.specs.Machine.{word_in}
use Rattle.orc_sound.proofs.Passed.{passed}
use Rattle.orc_sound.specs.Decisions.{target_fits}
use Rattle.orc_sound.proofs.row_tests.links_fit.Given as goal

abbrev pub invariant-loop-number : goal.invariant-loop-number
invariant-loop-number l = l.fit ≡ passed l.number (λ n. target_fits l.state (word_in l.state (link_at n l.row)))
