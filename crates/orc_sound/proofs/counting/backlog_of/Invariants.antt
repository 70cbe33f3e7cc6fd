use Rattle.std.proofs.Common.{◌≡◌, ◌≤◌}
use Rattle.std.specs.Prelude.{not, ◌&&◌}
use Rattle.orc_core.specs.Counts.{is_retired}
use Rattle.orc_core.proofs.Counted.{counted}
use Rattle.orc_sound.specs.Backlog.{is_listed}
use Rattle.orc_sound.proofs.counting.backlog_of.Given as goal

abbrev pub invariant-loop-row : goal.invariant-loop-row
invariant-loop-row l = record { so_far : l.count ≡ counted l.row (λ r. is_retired l.state r && not (is_listed l.state r)); small : l.count ≤ l.row }
