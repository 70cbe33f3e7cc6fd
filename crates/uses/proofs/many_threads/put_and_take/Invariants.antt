use Rattle.uses.proofs.many_threads.put_and_take.Given as goal

-- the pass may be used
abbrev pub invariant-loop-job : goal.invariant-loop-job
invariant-loop-job g l = g.Q.SharedQueue.usable l.queue l.p
