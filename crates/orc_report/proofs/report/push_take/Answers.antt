use Rattle.std.proofs.Common.{◌∙◌}
use Rattle.std.proofs.lemmas.Result.{on_ok_weaker}
use Rattle.orc_report.proofs.ReportedReplies.{take_pieces}
use Rattle.orc_report.proofs.report.push_take.Goals as goal

pub returns-in-Done : goal.returns-in-Done
returns-in-Done c =
    on_ok_weaker c.writeln.result (λ e. e ∙ take_pieces _ c.args.reply.now _ _ c.word_of_side-side.ensures c.in-Done.is)
    c.writeln.ensures.bytes

pub returns-in-Void : goal.returns-in-Void
returns-in-Void c =
    on_ok_weaker c.writeln-in-Void.result (λ e. e ∙ take_pieces _ c.args.reply.now _ _ c.word_of_side-side.ensures c.in-Void.is)
    c.writeln-in-Void.ensures.bytes
