use Rattle.workers_bench.specs.Usable.{MayCall}
use Rattle.workers_bench.proofs.calls.post.Given as goal

-- the passes may be used
abbrev pub invariant-loop-index : goal.invariant-loop-index
invariant-loop-index g l = MayCall g.Q.SharedQueue g.S.SharedSet l.queue l.set l.desk
