use Rattle.std.proofs.Common.{arith, refl}
use Rattle.container_tests.proofs.Putting.{may_put}
use Rattle.container_tests.proofs.tests.fifo_rule.examples.positions_end.Goals as goal

pub returns-clause-last : goal.returns-clause-last
returns-clause-last c = may_put _ _ 1 _ _ _ _ refl refl (omega arith)
