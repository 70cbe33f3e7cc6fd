use Rattle.std.proofs.Common.{◌≡◌, ◌≤◌, ◌*◌, length, sum, take}
use Rattle.orc_report.specs.Summary.{values_of}
use Rattle.orc_report.proofs.summary.total_of.Given as goal

abbrev pub invariant-loop-other : goal.invariant-loop-other
invariant-loop-other l = record {
  op : l.total.op ≡ l.op;
  jobs : l.total.jobs ≡ length (values_of l.op (take l.other-index l.jobs));
  sum : l.total.sum ≡ sum (values_of l.op (take l.other-index l.jobs));
  few : l.total.jobs ≤ l.other-index;
  small : l.total.sum ≤ l.other-index * 18446744073709551615;
}
