-- The shape has these numbers.
use Rattle.std.proofs.Common.{ap}
use Rattle.orc_words.specs.Bounds.{Bounds}
use Rattle.orc_containers.proofs.News.{are_asked}
use Rattle.orc_containers.proofs.split.new_split_set.Goals as goal

pub split_set_over-requires-clause-size : goal.split_set_over-requires-clause-size
split_set_over-requires-clause-size g c = c.requires

pub split_set_over-requires-clause-roots : goal.split_set_over-requires-clause-roots
split_set_over-requires-clause-roots g c = ap (λ (b : Bounds). b.roots) c.in_ok-shape.ensures.asked

pub returns : goal.returns
returns g c =
    let made = c.in_ok-made.ensures in
    assumption (made, are_asked c.in_ok-shape.ensures.asked c.in_ok-shape.shape.few_agents made.passes made.all made.bounds)
