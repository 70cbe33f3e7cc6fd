use Rattle.domain_tests.specs.JobRun.{IsPlayed}
use Rattle.domain_tests.proofs.tests.steps.make_ones.Given as goal

abbrev pub invariant-loop-op : goal.invariant-loop-op
invariant-loop-op g l = IsPlayed l.board l.p l.state
