use Rattle.std.proofs.Common.{◌≡◌, ◌≤◌, ◌+◌, length}
use Rattle.orc_jobs.specs.Line.{jobs_in}
use Rattle.orc_stages.specs.Calls.{AreStagePasses, Moves}
use Rattle.orc_stages.proofs.stage.run_stage.Given as goal

abbrev pub invariant-loop : goal.invariant-loop
invariant-loop g l = record {
  passes : AreStagePasses g.Q.SharedQueue l.from l.to (g.Q.SharedQueue.agent_of l.from l.initial.p) l.p l.r;
  spare : length l.replies.items + l.replies.spare ≡ l.initial.replies.spare;
  few : length l.replies.items ≤ jobs_in l.lines;
  moved : Moves g.Q.SharedQueue l.from l.to l.lines l.stage l.initial.p l.initial.r l.p l.r l.replies.items;
}
