use Rattle.uses.proofs.wearing.use_up_and_reuse.Given as goal

abbrev pub invariant-loop-round : goal.invariant-loop-round
invariant-loop-round g l = g.Q.SharedQueue.usable l.queue l.p
