use Rattle.std.proofs.Common.{◌≡◌}
use Rattle.orc_board.specs.Desk.{seen_in}
use Rattle.orc_board.specs.Stretches.{queue_views}
use Rattle.orc_board.proofs.Rows.{Passed}
use Rattle.orc_board.proofs.desk.take_one.Given as goal

abbrev pub invariant-loop : goal.invariant-loop
invariant-loop g l = record {
  queue : g.Q.SharedQueue.usable l.queue l.desk.queue;
  rush : g.Q.SharedQueue.usable l.rush l.desk.rush;
  agent : g.Q.SharedQueue.agent_of l.queue l.desk.queue ≡ g.Q.SharedQueue.agent_of l.queue l.initial.desk.queue;
  rush_agent : g.Q.SharedQueue.agent_of l.rush l.desk.rush ≡ g.Q.SharedQueue.agent_of l.queue l.initial.desk.queue;
  set : l.desk.set ≡ l.initial.desk.set;
  passed : Passed (queue_views g.Q.SharedQueue l.queue l.rush) l.lines (g.Q.SharedQueue.agent_of l.queue l.initial.desk.queue)
      (seen_in g.Q.SharedQueue l.initial.desk) (seen_in g.Q.SharedQueue l.desk);
}
