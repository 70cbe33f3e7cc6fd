use Rattle.std.proofs.Common.{◌≡◌}
use Rattle.orc_stress.proofs.runs.fill.Given as goal

-- the pass is ready, and of the same agent
abbrev pub invariant-loop-place : goal.invariant-loop-place
invariant-loop-place g l = record {
  ready : g.C.Container.ready l.container l.p;
  same : g.C.Container.agent_of l.container l.p ≡ g.C.Container.agent_of l.container l.initial.p;
}
