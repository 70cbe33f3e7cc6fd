use Rattle.std.proofs.Common.{◌≡◌, ◌+◌, length, map}
use Rattle.orc_board.specs.declared.replies.PostReply.{PostReply}
use Rattle.orc_board.specs.Desk.{IsDesk, seen_in}
use Rattle.orc_board.specs.Stretches.{queue_views, set_view}
use Rattle.orc_board.specs.Follows.{Posting, own_records}
use Rattle.orc_board.proofs.loops.post_records.Given as goal

abbrev pub invariant-loop-index : goal.invariant-loop-index
invariant-loop-index g l = record {
  desk : IsDesk g.Q.SharedQueue g.S.SharedSet l.queue l.rush l.set l.poster l.desk;
  spare : length l.replies.items + l.replies.spare ≡ l.initial.replies.spare;
  posting : Posting (queue_views g.Q.SharedQueue l.queue l.rush) (set_view g.S.SharedSet l.set) l.lines l.poster l.replies.items
      (seen_in g.Q.SharedQueue l.initial.desk) (g.S.SharedSet.journal l.initial.desk.set) (seen_in g.Q.SharedQueue l.desk)
      (g.S.SharedSet.journal l.desk.set);
  in_file_order : map (λ (r : PostReply). r.line) l.replies.items ≡ own_records l.posters l.poster l.index;
}
