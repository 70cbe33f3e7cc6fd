use Rattle.std.proofs.Common.{[]}
use Rattle.orc_board.specs.Stretches.{queue_view}
use Rattle.orc_stages.specs.Stage.{Moving}
use Rattle.orc_stages.specs.Calls.{AreStagePasses}
use Rattle.orc_stages.proofs.stage.move_one.Given as goal

abbrev pub invariant-loop : goal.invariant-loop
invariant-loop g l = record {
  passes : AreStagePasses g.Q.SharedQueue l.from l.to (g.Q.SharedQueue.agent_of l.from l.initial.p) l.p l.r;
  moved : Moving (queue_view g.Q.SharedQueue l.from) (queue_view g.Q.SharedQueue l.to) l.lines l.stage (g.Q.SharedQueue.agent_of l.from l.initial.p) []
      (g.Q.SharedQueue.journal l.initial.p) (g.Q.SharedQueue.journal l.initial.r) (g.Q.SharedQueue.journal l.p) (g.Q.SharedQueue.journal l.r);
}
