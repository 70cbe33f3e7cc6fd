use Rattle.uses.proofs.wearing.wear_out.Given as goal

abbrev pub invariant-loop-round : goal.invariant-loop-round
invariant-loop-round g l = g.S.SharedSet.usable l.set l.p

abbrev pub invariant-loop-case : goal.invariant-loop-case
invariant-loop-case g l = g.S.SharedSet.usable l.set l.p
