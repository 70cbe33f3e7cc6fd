use Rattle.std.proofs.Common.{◌∙◌}
use Rattle.std.proofs.lemmas.Result.{on_ok_weaker}
use Rattle.orc_report.proofs.ReportedReplies.{board_pieces}
use Rattle.orc_report.proofs.report.push_board_row.Goals as goal

pub returns-in-Done : goal.returns-in-Done
returns-in-Done c = on_ok_weaker c.writeln.result (λ e. e ∙ board_pieces _ c.args.at c.args.place c.args.id _ _ c.in-Done.is) c.writeln.ensures.bytes

pub returns-in-Void : goal.returns-in-Void
returns-in-Void c = on_ok_weaker c.writeln-in-Void.result (λ e. e ∙ board_pieces _ c.args.at c.args.place c.args.id _ _ c.in-Void.is) c.writeln-in-Void.ensures.bytes
