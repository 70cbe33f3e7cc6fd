-- The shape has these numbers.
use Rattle.orc_containers.proofs.News.{are_asked}
use Rattle.orc_containers.proofs.set.new_set.Goals as goal

pub returns : goal.returns
returns g c =
    let made = c.in_ok-made.ensures in
    assumption (made, are_asked c.in_ok-shape.ensures.asked c.in_ok-shape.shape.few_agents made.passes made.all made.bounds)
