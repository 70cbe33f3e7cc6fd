use Rattle.std.proofs.Common.{rules}
use Rattle.orc_jobs.specs.Line.{PostsJob}
use Rattle.orc_board.specs.Stretches.{queue_view}
use Rattle.orc_stages.proofs.Posts.{skipped, item_put}
use Rattle.orc_stages.proofs.poster.post_item.Goals as goal

pub returns-in-Drop-clause-posted : goal.returns-in-Drop-clause-posted
returns-in-Drop-clause-posted g c = skipped (queue_view g.Q.SharedQueue c.args.queue.now) _ _ _ _ _ c.in-Drop.is

pub returns-in-Ok-clause-posted : goal.returns-in-Ok-clause-posted
returns-in-Ok-clause-posted g c =
    let posts : PostsJob c.args.line.now = search rules in
    item_put (queue_view g.Q.SharedQueue c.args.queue.now) _ _ _ _ _ _ _ posts c.from.ensures c.in-Ok.ensures.put
