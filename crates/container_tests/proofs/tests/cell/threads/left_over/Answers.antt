-- The pass that was taken is put back in its place, as usable as before and of the same agent.
use Rattle.std.proofs.Common.{[], ℕ, subst, sym, ◌++◌, ◌∙◌, ◌∷◌, ◌≡◌}
use Rattle.orc_cell.specs.CellCalls.{IsUsable}
use Rattle.orc_heap.specs.Domains.{agent}
use Rattle.orc_shared_words.specs.Lists.{EachAt}
use Rattle.container_tests.proofs.CellPasses.{last_at, of_last}
use Rattle.container_tests.proofs.tests.cell.threads.left_over.Goals as goal

pub read-requires : goal.read-requires
read-requires g c =
    let links = c.args.cell.now.links in
    let P = λ (i : ℕ) (p : g.row.L-Pass.Denot). IsUsable g.L.Links links p × (agent g.L.Links links p ≡ i) in
    let was : EachAt P (c.pop.new.self.items ++ c.in_ok-p.p ∷ []) = subst (EachAt P) c.in_ok-p.ensures.items c.requires.usable in
    record { usable = (of_last P c.pop.new.self.items c.in_ok-p.p was).0 }

pub returns-clause-usable : goal.returns-clause-usable
returns-clause-usable g c =
    let links = c.args.cell.now.links in
    let P = λ (i : ℕ) (p : g.row.L-Pass.Denot). IsUsable g.L.Links links p × (agent g.L.Links links p ≡ i) in
    let was : EachAt P (c.pop.new.self.items ++ c.in_ok-p.p ∷ []) = subst (EachAt P) c.in_ok-p.ensures.items c.requires.usable in
    subst (EachAt P) (sym c.in-Ok.ensures.items) (last_at P c.pop.new.self.items c.in_ok-p.p c.read.new.p was
    (λ i h. (c.read.ensures.usable, c.read.ensures.agent ∙ h.1)))
