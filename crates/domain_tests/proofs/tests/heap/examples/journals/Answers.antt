use Rattle.std.proofs.Common.{inl, refl}
use Rattle.orc_heap.specs.Heap.{new_node}
use Rattle.domain_tests.proofs.tests.heap.examples.journals.Goals as goal

pub returns-clause-lawful : goal.returns-clause-lawful
returns-clause-lawful c = ((tt, ((refl, record { node = new_node 3; there = refl; known = inl refl }), (refl, tt))), refl, refl)

pub returns-clause-aimed : goal.returns-clause-aimed
returns-clause-aimed c = (
  (
    tt,
    (
      (record { node = new_node 3; there = refl; mine = refl; unlinked = refl }, record { node = new_node 3; there = refl; known = inl refl }),
      tt,
    ),
  ),
  refl,
  refl,
)
