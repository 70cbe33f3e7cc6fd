use Rattle.uses.proofs.many_threads.call_in_turn.Given as goal

-- the pass may be used
abbrev pub invariant-loop-call : goal.invariant-loop-call
invariant-loop-call g l = g.S.SharedSet.usable l.set l.p
