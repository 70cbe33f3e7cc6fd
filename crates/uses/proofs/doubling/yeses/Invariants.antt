use Rattle.std.proofs.Common.{◌≡◌}
use Rattle.uses.proofs.doubling.yeses.Given as goal

-- the pass is usable, and of the same agent
abbrev pub invariant-loop-key : goal.invariant-loop-key
invariant-loop-key g l = record {
  usable : g.S.SharedSet.usable l.set l.p;
  same : g.S.SharedSet.agent_of l.set l.p ≡ g.S.SharedSet.agent_of l.set l.initial.p;
}
