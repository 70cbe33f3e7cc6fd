use Rattle.std.proofs.Common.{arith, refl}
use Rattle.container_tests.proofs.tests.queue.examples.no_position_is_left.Goals as goal

pub returns-clause-first : goal.returns-clause-first
returns-clause-first c = (refl, record { mine = refl; id = 0; linked = record { node = _; there = refl; linked = refl }; at_end = refl; full = omega arith })
