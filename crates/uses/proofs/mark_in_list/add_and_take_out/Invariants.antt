use Rattle.uses.proofs.mark_in_list.add_and_take_out.Given as goal

abbrev pub invariant-loop-key : goal.invariant-loop-key
invariant-loop-key g l = g.S.SharedSet.usable l.set l.one × g.S.SharedSet.usable l.set l.two
