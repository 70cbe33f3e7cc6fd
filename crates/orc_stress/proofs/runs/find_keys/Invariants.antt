use Rattle.std.proofs.Common.{◌≡◌}
use Rattle.orc_stress.proofs.runs.find_keys.Given as goal

-- the pass is ready, and of the same agent
abbrev pub invariant-loop-key : goal.invariant-loop-key
invariant-loop-key g l = record {
  ready : g.C.Container.ready l.container l.p;
  same : g.C.Container.agent_of l.container l.p ≡ g.C.Container.agent_of l.container l.initial.p;
}
