use Rattle.std.proofs.Common.{◌≡◌, ◌+◌, ◌*◌}
use Rattle.std.specs.Prelude.{◌&&◌, nat_le}
use Rattle.orc_core.specs.Machine.{record_at}
use Rattle.orc_core.specs.RecordParts.{holds, slot_of}
use Rattle.orc_sound.proofs.Found.{found_below}
use Rattle.orc_sound.proofs.agent_tests.holds_from.Given as goal

abbrev pub invariant-loop-slot : goal.invariant-loop-slot
invariant-loop-slot l = l.found ≡ found_below l.slot (λ j. holds (slot_of (record_at l.state l.agent) j) l.row && nat_le l.k (8 * l.agent + j))
