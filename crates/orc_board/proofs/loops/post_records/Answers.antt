use Rattle.std.proofs.Common.{◌≡◌, ◌<◌, length, ap, ◌∙◌, arith, map, [], ◌∷◌, length-append}
use Rattle.orc_board.specs.declared.replies.PostReply.{PostReply}
use Rattle.orc_board.specs.Stretches.{queue_views, set_view}
use Rattle.orc_board.proofs.Workers.{posting_none, posting_more, own-more, own-no, own-spare}
use Rattle.orc_board.proofs.loops.post_records.Goals as goal
use Rattle.orc_board.proofs.loops.post_records.Goals.{then-index-posters, else-index-posters}

pub loop-index-init : goal.loop-index-init
loop-index-init g c = record {
  desk = c.requires.desk;
  spare = let none : length c.args.replies.now.items ≡ 0 = ap length c.requires.none in omega (arith, none);
  posting = posting_none (queue_views g.Q.SharedQueue c.args.queue.now c.args.rush.now) (set_view g.S.SharedSet c.args.set.now) _ _ _ _ _ c.requires.none;
  in_file_order = ap (map (λ (r : PostReply). r.line)) c.requires.none;
}

pub loop-index-preserved : goal.loop-index-preserved
loop-index-preserved g c = elim c.if-index-posters.branch [
  | then-index-posters w ↦ rw (w.desk-is, w.replies-is) (record {
    desk = w.reply_to.ensures.desk;
    spare =
        rw w.push.ensures.items
        (omega (arith, c.loop-index.invariant.spare, w.push.ensures.spare, length-append c.loop-index.replies.items (w.reply_to.result ∷ [])));
    posting =
        rw w.push.ensures.items
        (posting_more (queue_views g.Q.SharedQueue c.args.queue.now c.args.rush.now)
        (set_view g.S.SharedSet c.args.set.now) _ _ _ _ _ _ _ _ _ _ _ _ c.loop-index.invariant.posting w.reply_to.ensures.reply w.get.ensures
        w.reply_to.ensures.row);
    in_file_order =
        rw w.push.ensures.items
        (own-more (λ (r : PostReply). r.line) _ _ _ _ c.requires.poster.0 w.if-index-posters.true c.loop-index.invariant.in_file_order _ w.reply_to.ensures.reply.1);
  })
  | else-index-posters w ↦ rw (w.desk-is, w.replies-is) (record {
    desk = c.loop-index.invariant.desk;
    spare = c.loop-index.invariant.spare;
    posting = c.loop-index.invariant.posting;
    in_file_order = c.loop-index.invariant.in_file_order ∙ own-no _ _ _ c.requires.poster.0 w.if-index-posters.false;
  })
]

pub push-requires : goal.push-requires
push-requires g c =
    let low : c.loop-index.index < length c.args.lines.now = omega arith in
    own-spare (λ (r : PostReply). r.line) _ _ _ _ c.requires.poster.0 c.if-index-posters.true c.loop-index.invariant.in_file_order _ _ _ low c.requires.room
    c.loop-index.invariant.spare
