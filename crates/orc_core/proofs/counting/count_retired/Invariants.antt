use Rattle.std.proofs.Common.{◌≡◌, ◌≤◌}
use Rattle.orc_core.specs.Counts.{is_retired}
use Rattle.orc_core.proofs.Counted.{counted}
use Rattle.orc_core.proofs.counting.count_retired.Given as goal

abbrev pub invariant-loop-row : goal.invariant-loop-row
invariant-loop-row l = record { so_far : l.count ≡ counted l.row (is_retired l.state); small : l.count ≤ l.row }
