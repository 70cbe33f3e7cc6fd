use Rattle.std.proofs.Common.{◌≡◌, ◌≤◌}
use Rattle.std.specs.Prelude.{◌&&◌}
use Rattle.orc_core.specs.Counts.{is_out, is_target}
use Rattle.orc_core.proofs.Counted.{counted}
use Rattle.orc_core.proofs.counting.count_linked.Given as goal

abbrev pub invariant-loop-row : goal.invariant-loop-row
invariant-loop-row l = record { so_far : l.count ≡ counted l.row (λ r. is_out l.state r && is_target l.state r); small : l.count ≤ l.row }
