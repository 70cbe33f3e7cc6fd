use Rattle.std.proofs.Common.{◌≡◌, ◌+◌, length}
use Rattle.orc_stages.specs.Calls.{AreStagePasses, MovesMore}
use Rattle.orc_stages.proofs.stage.move_rest.Given as goal

abbrev pub invariant-loop : goal.invariant-loop
invariant-loop g l = record {
  passes : AreStagePasses g.Q.SharedQueue l.from l.to (g.Q.SharedQueue.agent_of l.from l.initial.p) l.p l.r;
  spare : length l.replies.items + l.replies.spare ≡ length l.initial.replies.items + l.initial.replies.spare;
  moved : MovesMore g.Q.SharedQueue l.from l.to l.lines l.stage l.initial.p l.initial.r l.p l.r l.initial.replies.items l.replies.items;
}
