use Rattle.std.proofs.Common.{◌≡◌, take}
use Rattle.orc_report.specs.Summary.{firsts, operations_of}
use Rattle.orc_report.specs.Totals.{operation_totals}
use Rattle.orc_report.proofs.summary.totals_of.Given as goal

abbrev pub invariant-loop-op : goal.invariant-loop-op
invariant-loop-op l = l.totals.entries ≡ operation_totals l.jobs (firsts (operations_of (take l.op-index l.jobs)))
