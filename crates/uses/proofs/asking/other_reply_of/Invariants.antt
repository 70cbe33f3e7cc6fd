use Rattle.uses.proofs.asking.other_reply_of.Given as goal

abbrev pub invariant-loop-place : goal.invariant-loop-place
invariant-loop-place g l = g.Q.SharedQueue.usable l.queue l.pass
