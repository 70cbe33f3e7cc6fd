use Rattle.std.proofs.Common.{◌≡◌, ◌+◌, length}
use Rattle.orc_board.specs.Desk.{IsDesk, seen_in}
use Rattle.orc_board.specs.Stretches.{queue_views, set_view}
use Rattle.orc_board.specs.Follows.{Taking}
use Rattle.orc_board.proofs.loops.take_rest.Given as goal

abbrev pub invariant-loop : goal.invariant-loop
invariant-loop g l = record {
  desk : IsDesk g.Q.SharedQueue g.S.SharedSet l.queue l.rush l.set (g.Q.SharedQueue.agent_of l.queue l.initial.desk.queue) l.desk;
  spare : length l.replies.items + l.replies.spare ≡ l.initial.replies.spare;
  taking : Taking (queue_views g.Q.SharedQueue l.queue l.rush) (set_view g.S.SharedSet l.set) l.lines l.taker
      (g.Q.SharedQueue.agent_of l.queue l.initial.desk.queue) l.replies.items (seen_in g.Q.SharedQueue l.initial.desk)
      (g.S.SharedSet.journal l.initial.desk.set) (seen_in g.Q.SharedQueue l.desk) (g.S.SharedSet.journal l.desk.set);
}
