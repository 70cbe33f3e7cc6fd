-- All eight are tested.
use Rattle.std.proofs.Common.{◌≡◌, ◌∙◌, arith}
use Rattle.orc_sound.specs.Decisions.{slot_fits}
use Rattle.orc_sound.proofs.Passed.{passed_all}
use Rattle.orc_sound.proofs.agent_tests.all_slots_fit.Goals as goal

pub returns : goal.returns
returns c = let e : c.loop-slot.slot ≡ 8 = omega arith in (rw e at c.loop-slot.invariant) ∙ passed_all 8 (slot_fits c.args.state.now c.args.agent)
