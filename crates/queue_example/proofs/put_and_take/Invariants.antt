use Rattle.queue_example.proofs.put_and_take.Given as goal

-- the pass may be used
abbrev pub invariant-loop-number : goal.invariant-loop-number
invariant-loop-number g l = g.Q.SharedQueue.usable l.queue l.pass

abbrev pub invariant-loop-call : goal.invariant-loop-call
invariant-loop-call g l = g.Q.SharedQueue.usable l.queue l.pass
