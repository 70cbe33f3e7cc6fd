use Rattle.std.proofs.Common.{◌≡◌, ◌+◌, ◌*◌}
use Rattle.std.specs.Prelude.{not, ◌||◌, nat_le}
use Rattle.orc_core.specs.Machine.{record_at}
use Rattle.orc_core.specs.RecordParts.{holds, slot_of}
use Rattle.orc_sound.proofs.Passed.{passed}
use Rattle.orc_sound.proofs.agent_tests.agent_holds_late.Given as goal

abbrev pub invariant-loop-slot : goal.invariant-loop-slot
invariant-loop-slot l = l.late ≡ passed l.slot (λ j. not (holds (slot_of (record_at l.state l.agent) j) l.row) || nat_le l.k (8 * l.agent + j))
