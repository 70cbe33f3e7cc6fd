use Rattle.std.proofs.Common.{◌≡◌, ◌+◌, ◌∙◌, ap, arith}
use Rattle.orc_words.specs.Bounds.{Bounds, bounds_of}
use Rattle.orc_at_rest.specs.Domains.{agents_of, run_bounds}
use Rattle.orc_run.proofs.task.Task.shape.Goals as goal

pub returns : goal.returns
returns c =
    let task = c.args.self.now in
    let count : 1 + task.posters + task.takers ≡ agents_of task.posters task.takers = omega arith in
    let sizes : bounds_of c.shape_of.result ≡ run_bounds task.rows c.args.roots (agents_of task.posters task.takers) =
    c.shape_of.ensures ∙ ap (run_bounds task.rows c.args.roots) count in
    record { sizes = sizes; agents = ap (λ (b : Bounds). b.agents) sizes; roots = ap (λ (b : Bounds). b.roots) sizes }
