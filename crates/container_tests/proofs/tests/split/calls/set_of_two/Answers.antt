-- The greatest number of buckets is a power of two, and there is a root more.
use Rattle.std.proofs.Common.{ap, arith, refl, ◌∙◌}
use Rattle.orc_heap.specs.Heap.{HeapNumbers}
use Rattle.orc_words.specs.Bounds.{Bounds}
use Rattle.container_tests.proofs.tests.split.calls.set_of_two.Goals as goal

pub new_split_set-requires : goal.new_split_set-requires
new_split_set-requires g c = (omega arith, 2, refl)

pub returns-clause-roots : goal.returns-clause-roots
returns-clause-roots g c =
    let set = c.in-Ok.set in
    let roots = ap (λ (n : HeapNumbers). n.roots) (g.met.L.Domain.numbers_are set.links) ∙ ap (λ (b : Bounds). b.roots) c.in-Ok.ensures.bounds in
    omega (arith, roots)
