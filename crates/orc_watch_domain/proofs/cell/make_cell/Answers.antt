-- What any cell promises, said of one of these sizes.
use Rattle.std.proofs.Common.{ap, arith, ◌*◌, ◌+◌, ◌∙◌, ◌≡◌}
use Rattle.orc_watch_run.proofs.Rooms.{fresh_of}
use Rattle.orc_words.specs.Bounds.{Bounds, bounds_of}
use Rattle.orc_watch_domain.proofs.cell.make_cell.Goals as goal

pub cell_over-requires-clause-links : goal.cell_over-requires-clause-links
cell_over-requires-clause-links g c = ap (λ (b : Bounds). b.links) c.shape_of.ensures

pub cell_over-requires-clause-roots : goal.cell_over-requires-clause-roots
cell_over-requires-clause-roots g c =
    let roots : (bounds_of c.shape_of.result).roots ≡ 1 + 2 * c.args.agents = ap (λ (b : Bounds). b.roots) c.shape_of.ensures in
    let agents : (bounds_of c.shape_of.result).agents ≡ c.args.agents = ap (λ (b : Bounds). b.agents) c.shape_of.ensures in
    omega (arith, roots, agents)

pub returns-clause-fresh : goal.returns-clause-fresh
returns-clause-fresh g c =
    let made = c.in_ok-cell.ensures in
    fresh_of _ c.in_ok-cell.cell.links 0 c.in_ok-cell.passes.items made.usable made.fresh (λ i q low. let n = made.agents i q low in omega (arith, n))

pub returns-clause-passes : goal.returns-clause-passes
returns-clause-passes g c = c.in_ok-cell.ensures.passes ∙ ap (λ (b : Bounds). b.agents) c.shape_of.ensures

pub returns-clause-agents : goal.returns-clause-agents
returns-clause-agents g c = c.in_ok-cell.ensures.all ∙ ap (λ (b : Bounds). b.agents) c.shape_of.ensures

pub returns-clause-made : goal.returns-clause-made
returns-clause-made g c = record { sizes = c.in_ok-cell.ensures.bounds ∙ c.shape_of.ensures; begins = c.in_ok-cell.ensures.opening }
