use Rattle.std.proofs.Common.{◌∙◌, sym}
use Rattle.orc_report.specs.Report.{is_rush}
use Rattle.orc_report.proofs.Rushes.{any_at, none_more}
use Rattle.orc_report.proofs.report.has_rush.Goals as goal

pub returns-then-is_rush : goal.returns-then-is_rush
returns-then-is_rush c =
    sym (any_at is_rush c.args.lines.now c.loop-place.place c.get.result.now c.get.ensures (sym c.is_rush.ensures ∙ c.if-is_rush.true))

pub loop-place-preserved : goal.loop-place-preserved
loop-place-preserved c =
    none_more is_rush c.args.lines.now c.loop-place.place c.get.result.now c.get.ensures (sym c.is_rush.ensures ∙ c.if-is_rush.false) c.loop-place.invariant
