use Rattle.std.proofs.Common.{arith, inl, refl}
use Rattle.orc_heap.specs.Heap.{new_node}
use Rattle.domain_tests.proofs.tests.heap.examples.fitting.Goals as goal

pub returns-clause-its_own : goal.returns-clause-its_own
returns-clause-its_own c = (record { node = new_node 3; there = refl; mine = refl; unlinked = refl }, omega arith)

pub returns-clause-reaches : goal.returns-clause-reaches
returns-clause-reaches c = (refl, record { node = new_node 3; there = refl; known = inl refl })

pub returns-clause-second_link : goal.returns-clause-second_link
returns-clause-second_link c = (record { node = new_node 3; there = refl; mine = refl; unlinked = refl }, tt, omega arith)
