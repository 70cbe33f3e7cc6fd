use Rattle.std.proofs.Common.{refl}
use Rattle.container_tests.proofs.Putting.{opening_allowed}
use Rattle.container_tests.proofs.tests.fifo_rule.examples.the_opening.Goals as goal

pub returns : goal.returns
returns c = (opening_allowed, refl, refl, refl)
