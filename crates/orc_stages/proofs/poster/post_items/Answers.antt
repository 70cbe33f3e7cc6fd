use Rattle.std.proofs.Common.{◌∙◌, arith}
use Rattle.orc_board.specs.Stretches.{queue_view}
use Rattle.orc_team.proofs.Replies.{through_more, through_none, through_other, through_room}
use Rattle.orc_stages.proofs.Posts.{posting_none, posting_more}
use Rattle.orc_stages.proofs.poster.post_items.Goals as goal
use Rattle.orc_stages.proofs.poster.post_items.Goals.{then-index-posters, else-index-posters}

pub loop-index-init : goal.loop-index-init
loop-index-init g c = record {
  usable = c.requires.usable;
  agent = c.requires.agent;
  posted = posting_none (queue_view g.Q.SharedQueue c.args.queue.now) _ _ _ _ c.requires.none;
  through = through_none _ _ _ _ c.requires.none;
}

pub loop-index-preserved : goal.loop-index-preserved
loop-index-preserved g c = elim c.if-index-posters.branch [
  | then-index-posters w ↦ rw (w.pass-is, w.replies-is) (record {
    usable = w.post_item.ensures.usable;
    agent = w.post_item.ensures.agent ∙ c.loop-index.invariant.agent;
    posted =
        rw w.push.ensures.items
        (posting_more (queue_view g.Q.SharedQueue c.args.queue.now) _ _ _ _ _ _ _ _ _ _ c.loop-index.invariant.posted c.loop-index.invariant.agent
        w.post_item.ensures.reply.0 w.post_item.ensures.reply.1 w.get.ensures w.post_item.ensures.posted);
    through = through_more c.requires.poster.0 c.loop-index.invariant.through _ _ w.if-index-posters.true w.post_item.ensures.reply.1 w.push.ensures.items
        w.push.ensures.spare;
  })
  | else-index-posters w ↦ rw (w.pass-is, w.replies-is) (record {
    usable = c.loop-index.invariant.usable;
    agent = c.loop-index.invariant.agent;
    posted = c.loop-index.invariant.posted;
    through = through_other c.requires.poster.0 c.loop-index.invariant.through w.if-index-posters.false;
  })
]

pub push-requires : goal.push-requires
push-requires g c = through_room c.requires.poster.0 c.loop-index.invariant.through _ c.if-index-posters.true (omega arith) c.requires.room
