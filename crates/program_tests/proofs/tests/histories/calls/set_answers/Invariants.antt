use Rattle.program_tests.proofs.tests.histories.calls.set_answers.Given as goal

-- the pass may be used
abbrev pub invariant-loop-place : goal.invariant-loop-place
invariant-loop-place g l = g.S.SharedSet.usable l.set l.p
