use Rattle.std.proofs.Common.{◌≡◌, ◌≤◌, ◌+◌, length}
use Rattle.orc_jobs.specs.Line.{jobs_in}
use Rattle.orc_board.specs.Desk.{IsDesk, seen_in}
use Rattle.orc_board.specs.Stretches.{queue_views, set_view}
use Rattle.orc_board.specs.Follows.{TakingRest}
use Rattle.orc_workers.proofs.work.run_taker.Given as goal

abbrev pub invariant-loop : goal.invariant-loop
invariant-loop g l = record {
  desk : IsDesk g.Q.SharedQueue g.S.SharedSet l.fn.queue l.fn.rush l.fn.set (g.Q.SharedQueue.agent_of l.fn.queue l.fn.desk.queue) l.desk;
  spare : length l.replies.items + l.replies.spare ≡ l.fn.replies.spare;
  few : length l.replies.items ≤ jobs_in l.fn.lines;
  taking : TakingRest (queue_views g.Q.SharedQueue l.fn.queue l.fn.rush) (set_view g.S.SharedSet l.fn.set) l.fn.lines l.fn.taker
      (g.Q.SharedQueue.agent_of l.fn.queue l.fn.desk.queue) l.replies.items (seen_in g.Q.SharedQueue l.fn.desk) (g.S.SharedSet.journal l.fn.desk.set)
      (seen_in g.Q.SharedQueue l.desk) (g.S.SharedSet.journal l.desk.set);
}
