-- The shape has these numbers.
use Rattle.std.proofs.Common.{ap, arith, ◌≡◌}
use Rattle.orc_words.specs.Bounds.{Bounds, bounds_of}
use Rattle.orc_containers.proofs.News.{are_asked}
use Rattle.orc_containers.proofs.queue.new_queue.Goals as goal

pub queue_over-requires-clause-roots : goal.queue_over-requires-clause-roots
queue_over-requires-clause-roots g c = let two : (bounds_of c.in_ok-shape.shape).roots ≡ 2 = ap (λ (b : Bounds). b.roots) c.in_ok-shape.ensures.asked in omega (arith, two)

pub queue_over-requires-clause-first : goal.queue_over-requires-clause-first
queue_over-requires-clause-first g c = omega arith

pub returns : goal.returns
returns g c =
    let made = c.in_ok-made.ensures in
    assumption (made, are_asked c.in_ok-shape.ensures.asked c.in_ok-shape.shape.few_agents made.passes made.all made.bounds)
