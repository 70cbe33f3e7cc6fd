-- The list has one root.
use Rattle.std.proofs.Common.{ap, arith}
use Rattle.orc_heap.specs.Heap.{HeapNumbers}
use Rattle.orc_words.specs.Bounds.{Bounds}
use Rattle.uses.proofs.mark_in_list.calls_beside_a_held_node.Goals as goal

pub by_three-requires-clause-root : goal.by_three-requires-clause-root
by_three-requires-clause-root g c =
    let made = c.in_ok-list in
    let numbers = g.met.L.Domain.numbers_are made.list.list.links in
    omega (arith, ap (λ (n : HeapNumbers). n.roots) numbers, ap (λ (b : Bounds). b.roots) made.ensures.bounds)
