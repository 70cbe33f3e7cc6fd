use Rattle.std.proofs.Common.{◌≡◌, ◌≤◌}
use Rattle.orc_core.specs.Machine.{record_at}
use Rattle.orc_core.specs.RecordParts.{names}
use Rattle.orc_core.proofs.Counted.{counted}
use Rattle.orc_sound.proofs.row_tests.decrements_of.Given as goal

abbrev pub invariant-loop-agent : goal.invariant-loop-agent
invariant-loop-agent l = record { so_far : l.count ≡ counted l.agent (λ a. names (record_at l.state a).dec l.row); small : l.count ≤ l.agent }
