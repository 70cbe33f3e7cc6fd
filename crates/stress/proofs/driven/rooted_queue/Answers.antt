-- The domain's heap has its roots.
use Rattle.std.proofs.Common.{ap, arith, ◌∙◌}
use Rattle.orc_heap.specs.Heap.{HeapNumbers}
use Rattle.stress.proofs.driven.rooted_queue.Goals as goal

pub new-requires : goal.new-requires
new-requires g c =
    let two = ap (λ (n : HeapNumbers). n.roots) (g.met.L.Domain.numbers_are c.args.queue.links) ∙ c.requires in
    omega (arith, two)
