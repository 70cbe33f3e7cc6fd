-- The tests are the parts of a sound state.
use Rattle.std.proofs.Common.{◌∙◌, sym}
use Rattle.orc_sound.proofs.DecidedSound.{sound_is}
use Rattle.orc_sound.proofs.DecidedTests.{is_sound}
use Rattle.orc_sound.proofs.soundness.sound.Goals as goal

pub returns : goal.returns
returns c = (
  λ t. sound_is c.args.state.now c.shape-shape.ensures.whole c.all_have_eight_slots.ensures (sym c.all_fit.ensures ∙ t),
  λ s. c.all_fit.ensures ∙ is_sound c.args.state.now s,
)
