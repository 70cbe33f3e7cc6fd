use Rattle.std.proofs.Common.{◌≡◌}
use Rattle.orc_core.specs.RecordParts.{is_empty, slot_of}
use Rattle.orc_sound.proofs.Passed.{passed}
use Rattle.orc_sound.proofs.agent_tests.all_slots_empty.Given as goal

abbrev pub invariant-loop-slot : goal.invariant-loop-slot
invariant-loop-slot l = l.empty ≡ passed l.slot (λ k. is_empty (slot_of l.agent k))
