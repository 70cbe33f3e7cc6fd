-- The shape has these numbers.
use Rattle.std.proofs.Common.{ap, arith, ◌*◌, ◌+◌, ◌≡◌}
use Rattle.orc_words.specs.Bounds.{Bounds, bounds_of}
use Rattle.orc_containers.proofs.Cells.{roots_for_all}
use Rattle.orc_containers.proofs.News.{are_asked}
use Rattle.orc_containers.proofs.cell.new_cell.Goals as goal

pub cell_over-requires-clause-links : goal.cell_over-requires-clause-links
cell_over-requires-clause-links g c = ap (λ (b : Bounds). b.links) c.in_ok-shape.ensures.asked

pub cell_over-requires-clause-roots : goal.cell_over-requires-clause-roots
cell_over-requires-clause-roots g c =
    let is = roots_for_all c.args.rows c.args.agents c.min.result c.min.ensures c.in_ok-shape.ensures.asked c.in_ok-shape.shape.few_agents in
    let roots : (bounds_of c.in_ok-shape.shape).roots ≡ 1 + 2 * c.args.agents = ap (λ (b : Bounds). b.roots) is in
    let agents : (bounds_of c.in_ok-shape.shape).agents ≡ c.args.agents = ap (λ (b : Bounds). b.agents) is in
    omega (arith, roots, agents)

pub returns : goal.returns
returns g c =
    let made = c.in_ok-made.ensures in
    let is = roots_for_all c.args.rows c.args.agents c.min.result c.min.ensures c.in_ok-shape.ensures.asked c.in_ok-shape.shape.few_agents in
    assumption (made, are_asked is c.in_ok-shape.shape.few_agents made.passes made.all made.bounds)
