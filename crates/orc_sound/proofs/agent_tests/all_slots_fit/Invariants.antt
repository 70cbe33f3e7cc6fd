use Rattle.std.proofs.Common.{◌≡◌}
use Rattle.orc_sound.specs.Decisions.{slot_fits}
use Rattle.orc_sound.proofs.Passed.{passed}
use Rattle.orc_sound.proofs.agent_tests.all_slots_fit.Given as goal

abbrev pub invariant-loop-slot : goal.invariant-loop-slot
invariant-loop-slot l = l.fit ≡ passed l.slot (slot_fits l.state l.agent)
