use Rattle.std.proofs.Common.{◌≡◌}
use Rattle.orc_stress.specs.Answers.{calls_of}
use Rattle.orc_stress.proofs.agents.make_calls.Given as goal

-- the pass is ready, and so many calls are counted
abbrev pub invariant-loop-number : goal.invariant-loop-number
invariant-loop-number g l = record {
  ready : g.C.Container.ready l.container l.p;
  same : g.C.Container.agent_of l.container l.p ≡ g.C.Container.agent_of l.container l.initial.p;
  counted : calls_of l.tally.answers ≡ l.number;
}
