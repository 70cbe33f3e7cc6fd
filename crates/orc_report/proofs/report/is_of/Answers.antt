use Rattle.orc_report.proofs.ReportedReplies.{side_equal}
use Rattle.orc_report.proofs.report.is_of.Goals as goal

pub returns : goal.returns
returns c = side_equal c.args.reply.now.rush c.args.rush
