use Rattle.domain_tests.specs.JobRun.{IsPlayed}
use Rattle.domain_tests.proofs.tests.job.free.Given as goal

abbrev pub invariant-loop-k : goal.invariant-loop-k
invariant-loop-k g l = IsPlayed l.board l.p l.state
