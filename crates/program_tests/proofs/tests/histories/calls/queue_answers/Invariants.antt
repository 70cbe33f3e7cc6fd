use Rattle.program_tests.proofs.tests.histories.calls.queue_answers.Given as goal

-- the pass may be used
abbrev pub invariant-loop-place : goal.invariant-loop-place
invariant-loop-place g l = g.Q.SharedQueue.usable l.queue l.p
