use Rattle.std.proofs.Common.{◌≡◌}
use Rattle.orc_words.specs.declared.place.Word.TheVariants.{Root}
use Rattle.orc_core.specs.Machine.{word_in}
use Rattle.orc_sound.specs.Decisions.{target_fits}
use Rattle.orc_sound.proofs.Passed.{passed}
use Rattle.orc_sound.proofs.soundness.roots_fit.Given as goal

abbrev pub invariant-loop-root : goal.invariant-loop-root
invariant-loop-root l = l.fit ≡ passed l.root (λ i. target_fits l.state (word_in l.state (Root i)))
