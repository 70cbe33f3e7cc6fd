use Rattle.workers_bench.specs.Usable.{MayCall}
use Rattle.workers_bench.proofs.calls.take.Given as goal

-- the passes may be used
abbrev pub invariant-loop-call : goal.invariant-loop-call
invariant-loop-call g l = MayCall g.Q.SharedQueue g.S.SharedSet l.queue l.set l.desk
