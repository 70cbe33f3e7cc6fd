use Rattle.uses.proofs.asking.other_answer_of.Given as goal

abbrev pub invariant-loop-place : goal.invariant-loop-place
invariant-loop-place g l = g.S.SharedSet.usable l.set l.pass
