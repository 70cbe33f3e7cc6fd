use Rattle.orc_split_set.specs.SetCalls.{IsUsable}
use Rattle.container_tests.proofs.tests.split.threads.insert_own.Given as goal

-- the pass may be used
abbrev pub invariant-loop-round : goal.invariant-loop-round
invariant-loop-round g l = IsUsable g.L.Links l.set.links l.p
