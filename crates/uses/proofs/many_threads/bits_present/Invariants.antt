use Rattle.uses.proofs.many_threads.bits_present.Given as goal

-- the pass may be used
abbrev pub invariant-loop-key : goal.invariant-loop-key
invariant-loop-key g l = g.S.SharedSet.usable l.set l.p
