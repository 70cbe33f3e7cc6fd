use Rattle.std.proofs.Common.{◌<◌, length}
use Rattle.std.proofs.lemmas.Option.{slice_get_within}
use Rattle.orc_board.specs.declared.replies.TakeReply.{TakeReply}
use Rattle.orc_board.specs.Reportable.{IsClaim}
use Rattle.orc_board.proofs.ListFacts.{AllByRecursion-map}
use Rattle.orc_report.proofs.summary.summary_text.Goals as goal

pub done_jobs-requires : goal.done_jobs-requires
done_jobs-requires c = rw c.items.ensures
    (AllByRecursion-map (IsClaim c.args.lines.now) (λ (r : TakeReply). r.line < length c.args.lines.now)
    (λ r k. slice_get_within c.args.lines.now r.line _ k.job.is) c.args.replies.now.takes.items c.requires.reportable.claimed)
