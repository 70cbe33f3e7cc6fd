use Rattle.uses.proofs.hold_in_queue.put_and_take.Given as goal

abbrev pub invariant-loop-job : goal.invariant-loop-job
invariant-loop-job g l = g.Q.SharedQueue.usable l.queue l.one × g.Q.SharedQueue.usable l.queue l.two
