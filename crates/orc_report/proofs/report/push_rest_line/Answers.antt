use Rattle.std.proofs.Common.{◌∙◌}
use Rattle.std.proofs.lemmas.Result.{on_ok_weaker}
use Rattle.orc_report.proofs.ReportedReplies.{rest_pieces}
use Rattle.orc_report.proofs.report.push_rest_line.Goals as goal

pub returns : goal.returns
returns c = on_ok_weaker c.writeln.result (λ e. e ∙ rest_pieces _ c.args.name.now c.args.given c.args.reused c.args.linked) c.writeln.ensures.bytes
