use Rattle.std.proofs.Common.{◌<◌, length}
use Rattle.orc_board.specs.declared.replies.TakeReply.{TakeReply}
use Rattle.orc_report.proofs.PositionOrder.{AllByRecursion-by_key}
use Rattle.orc_report.proofs.summary.done_jobs.Goals as goal

pub jobs_of-requires : goal.jobs_of-requires
jobs_of-requires c = rw (c.as_slice.ensures.value, c.in_ok-ordered.ensures)
    (AllByRecursion-by_key (λ (r : TakeReply). r.line < length c.args.lines.now) (λ (r : TakeReply). r.line) (length c.args.lines.now)
    c.args.takes.now c.requires)
