use Rattle.std.proofs.Common.{◌≡◌, ◌+◌, length}
use Rattle.orc_stages.specs.Calls.{TakesOnly}
use Rattle.orc_stages.proofs.caller.take_outs.Given as goal

abbrev pub invariant-loop : goal.invariant-loop
invariant-loop g l = record {
  usable : g.Q.SharedQueue.usable l.queue l.pass;
  agent : g.Q.SharedQueue.agent_of l.queue l.pass ≡ g.Q.SharedQueue.agent_of l.queue l.initial.pass;
  spare : length l.outs.items + l.outs.spare ≡ l.initial.outs.spare;
  taken : TakesOnly g.Q.SharedQueue l.queue l.initial.pass l.pass l.outs.items;
}
