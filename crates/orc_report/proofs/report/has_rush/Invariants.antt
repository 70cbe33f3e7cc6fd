use Rattle.std.proofs.Common.{◌≡◌, false, take}
use Rattle.orc_report.specs.Report.{has_rush}
use Rattle.orc_report.proofs.report.has_rush.Given as goal

abbrev pub invariant-loop-place : goal.invariant-loop-place
invariant-loop-place l = has_rush (take l.place l.lines) ≡ false
