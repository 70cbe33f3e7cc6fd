use Rattle.std.proofs.Common.{refl}
use Rattle.std.specs.Prelude.{None, Some, true}
use Rattle.orc_heap.specs.Heap.{Node, null}
use Rattle.domain_tests.proofs.tests.heap.examples.nodes_that_stay.Goals as goal

pub returns-clause-stays : goal.returns-clause-stays
returns-clause-stays c =
    let old : Node = record { giver = 3; first = Some 7; second = None; link = null; side = null; named = true; linked = true } in
    record { node = old; there = refl; linked = refl; giver = refl; first = refl; second = refl; link_is = refl }
