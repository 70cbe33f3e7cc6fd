-- The one pass is taken, and put back in its place, as usable as before and of the same agent.
use Rattle.std.proofs.Common.{[], ℕ, subst, sym, ◌++◌, ◌∙◌, ◌∷◌, ◌≡◌, rules}
use Rattle.orc_cell.specs.CellCalls.{IsUsable}
use Rattle.orc_heap.specs.Domains.{agent}
use Rattle.orc_shared_words.specs.Lists.{EachAt}
use Rattle.container_tests.proofs.CellPasses.{last_at, of_last}
use Rattle.container_tests.proofs.tests.cell.calls.one_publishes.Goals as goal

pub publish_and_read-answers-requires : goal.publish_and_read-answers-requires
publish_and_read-answers-requires g c =
    let links = c.args.cell.now.links in
    let P = λ (i : ℕ) (p : g.row.L-Pass.Denot). IsUsable g.L.Links links p × (agent g.L.Links links p ≡ i) in
    let was : EachAt P (c.pop.new.self.items ++ c.in_ok-p.p ∷ []) = subst (EachAt P) c.in_ok-p.ensures.items c.requires.usable in
    record { usable = (of_last P c.pop.new.self.items c.in_ok-p.p was).0 }

pub returns-clause-usable : goal.returns-clause-usable
returns-clause-usable g c =
    let links = c.args.cell.now.links in
    let P = λ (i : ℕ) (p : g.row.L-Pass.Denot). IsUsable g.L.Links links p × (agent g.L.Links links p ≡ i) in
    let was : EachAt P (c.pop.new.self.items ++ c.in_ok-p.p ∷ []) = subst (EachAt P) c.in_ok-p.ensures.items c.requires.usable in
    let done = c.publish_and_read-answers in
    let pushed : c.push.new.self.items ≡ c.pop.new.self.items ++ done.new.p ∷ [] = search rules in
    subst (EachAt P) (sym pushed) (last_at P c.pop.new.self.items c.in_ok-p.p done.new.p was (λ i h. (done.ensures.usable, done.ensures.agent ∙ h.1)))
