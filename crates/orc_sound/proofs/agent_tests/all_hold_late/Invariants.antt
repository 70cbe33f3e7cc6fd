use Rattle.std.proofs.Common.{◌≡◌, ◌+◌, ◌*◌}
use Rattle.std.specs.Prelude.{not, ◌||◌, nat_le}
use Rattle.orc_core.specs.Machine.{record_at}
use Rattle.orc_core.specs.RecordParts.{holds, slot_of}
use Rattle.orc_sound.specs.Decisions.{all_below}
use Rattle.orc_sound.proofs.Passed.{passed}
use Rattle.orc_sound.proofs.agent_tests.all_hold_late.Given as goal

abbrev pub invariant-loop-agent : goal.invariant-loop-agent
invariant-loop-agent l = l.late ≡ passed l.agent (λ a. all_below 8 (λ j. not (holds (slot_of (record_at l.state a) j) l.row) || nat_le l.k (8 * a + j)))
