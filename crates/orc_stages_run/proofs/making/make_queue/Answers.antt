-- What any queue promises, said of one of these sizes.
use Rattle.std.proofs.Common.{ap, arith, ◌∙◌, ◌≡◌}
use Rattle.orc_words.specs.Bounds.{Bounds, bounds_of}
use Rattle.orc_stages_run.proofs.making.make_queue.Goals as goal

pub queue_over-requires-clause-roots : goal.queue_over-requires-clause-roots
queue_over-requires-clause-roots g c =
    let two : (bounds_of c.shape_of.result).roots ≡ 2 = ap (λ (b : Bounds). b.roots) c.shape_of.ensures in omega (arith, two)

pub queue_over-requires-clause-first : goal.queue_over-requires-clause-first
queue_over-requires-clause-first g c = omega arith

pub returns-clause-usable : goal.returns-clause-usable
returns-clause-usable g c = c.in_ok-made.ensures.usable

pub returns-clause-numbered : goal.returns-clause-numbered
returns-clause-numbered g c = c.in_ok-made.ensures.agents

pub returns-clause-passes : goal.returns-clause-passes
returns-clause-passes g c = c.in_ok-made.ensures.passes ∙ ap (λ (b : Bounds). b.agents) c.shape_of.ensures

pub returns-clause-fresh : goal.returns-clause-fresh
returns-clause-fresh g c = c.in_ok-made.ensures.fresh

pub returns-clause-agents : goal.returns-clause-agents
returns-clause-agents g c = c.in_ok-made.ensures.all ∙ ap (λ (b : Bounds). b.agents) c.shape_of.ensures

pub returns-clause-first : goal.returns-clause-first
returns-clause-first g c = c.in_ok-made.ensures.first

pub returns-clause-made : goal.returns-clause-made
returns-clause-made g c = record { sizes = c.in_ok-made.ensures.bounds ∙ c.shape_of.ensures; begins = c.in_ok-made.ensures.opening }
