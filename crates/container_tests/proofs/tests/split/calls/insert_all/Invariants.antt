use Rattle.orc_split_set.specs.SetCalls.{IsUsable}
use Rattle.container_tests.proofs.tests.split.calls.insert_all.Given as goal

-- the pass may be used
abbrev pub invariant-loop-key : goal.invariant-loop-key
invariant-loop-key g l = IsUsable g.L.Links l.set.links l.p
