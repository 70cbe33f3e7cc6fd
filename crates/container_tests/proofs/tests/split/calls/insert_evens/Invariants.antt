use Rattle.orc_split_set.specs.SetCalls.{IsUsable}
use Rattle.container_tests.proofs.tests.split.calls.insert_evens.Given as goal

-- the pass may be used
abbrev pub invariant-loop-half : goal.invariant-loop-half
invariant-loop-half g l = IsUsable g.L.Links l.set.links l.p
