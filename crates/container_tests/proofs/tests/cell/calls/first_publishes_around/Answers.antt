-- The pass that was taken is put back in its place, as usable as before and of the same agent.
use Rattle.std.proofs.Common.{[], ℕ, subst, sym, ◌++◌, ◌∙◌, ◌∷◌, ◌≡◌}
use Rattle.orc_cell.specs.CellCalls.{IsUsable}
use Rattle.orc_heap.specs.Domains.{agent}
use Rattle.orc_shared_words.specs.Lists.{EachAt}
use Rattle.container_tests.proofs.CellPasses.{last_at}
use Rattle.container_tests.proofs.tests.cell.calls.first_publishes_around.Goals as goal

pub returns-clause-usable : goal.returns-clause-usable
returns-clause-usable g c =
    let links = c.args.cell.now.links in
    let P = λ (i : ℕ) (p : g.row.L-Pass.Denot). IsUsable g.L.Links links p × (agent g.L.Links links p ≡ i) in
    let was : EachAt P (c.pop.new.self.items ++ c.in_ok-first.first ∷ []) = subst (EachAt P) c.in_ok-first.ensures.items c.requires.usable in
    subst (EachAt P) (sym c.in-Ok.ensures.items) (last_at P c.pop.new.self.items c.in_ok-first.first c.publish_around-answers.new.first was
    (λ i h. (c.publish_around-answers.ensures.first, c.publish_around-answers.ensures.first_agent ∙ h.1)))
