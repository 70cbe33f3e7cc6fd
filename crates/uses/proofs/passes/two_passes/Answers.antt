-- One pass is popped after the other.
use Rattle.std.proofs.Common.{arith}
use Rattle.uses.proofs.passes.two_passes.Goals as goal

pub returns-clause-agents : goal.returns-clause-agents
returns-clause-agents g c e = omega (arith, e, c.in_ok-second.ensures.agent, c.in_ok-first.ensures.agent, c.in_ok-first.ensures.fewer)

pub returns-clause-first : goal.returns-clause-first
returns-clause-first g c = c.in_ok-first.ensures.popped

pub returns-clause-second : goal.returns-clause-second
returns-clause-second g c = c.in_ok-second.ensures.popped

pub next_pass-requires-clause-usable : goal.next_pass-requires-clause-usable
next_pass-requires-clause-usable g c = c.requires.usable

pub next_pass-requires-clause-agents : goal.next_pass-requires-clause-agents
next_pass-requires-clause-agents g c = c.requires.agents

pub next_pass-requires-2-clause-usable : goal.next_pass-requires-2-clause-usable
next_pass-requires-2-clause-usable g c = c.in_ok-second.ensures.usable

pub next_pass-requires-2-clause-agents : goal.next_pass-requires-2-clause-agents
next_pass-requires-2-clause-agents g c = c.in_ok-second.ensures.agents
