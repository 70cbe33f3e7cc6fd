-- The last pass is taken, and put back in its place, as usable as before and of the same agent.
use Rattle.std.proofs.Common.{[], ℕ, subst, sym, ◌++◌, ◌∙◌, ◌∷◌, ◌≡◌, rules}
use Rattle.orc_cell.specs.CellCalls.{IsUsable}
use Rattle.orc_heap.specs.Domains.{agent}
use Rattle.orc_shared_words.specs.Lists.{EachAt}
use Rattle.container_tests.proofs.CellPasses.{front_at, of_last, with_last}
use Rattle.container_tests.proofs.tests.cell.calls.two_publish.Goals as goal

pub first_publishes_around-requires-clause-usable : goal.first_publishes_around-requires-clause-usable
first_publishes_around-requires-clause-usable g c =
    let links = c.args.cell.now.links in
    let P = λ (i : ℕ) (p : g.row.L-Pass.Denot). IsUsable g.L.Links links p × (agent g.L.Links links p ≡ i) in
    let was : EachAt P (c.pop.new.self.items ++ c.in_ok-second.second ∷ []) = subst (EachAt P) c.in_ok-second.ensures.items c.requires.usable in
    front_at P c.pop.new.self.items c.in_ok-second.second was

pub first_publishes_around-requires-clause-second : goal.first_publishes_around-requires-clause-second
first_publishes_around-requires-clause-second g c =
    let links = c.args.cell.now.links in
    let P = λ (i : ℕ) (p : g.row.L-Pass.Denot). IsUsable g.L.Links links p × (agent g.L.Links links p ≡ i) in
    let was : EachAt P (c.pop.new.self.items ++ c.in_ok-second.second ∷ []) = subst (EachAt P) c.in_ok-second.ensures.items c.requires.usable in
    (of_last P c.pop.new.self.items c.in_ok-second.second was).0

pub returns-clause-usable : goal.returns-clause-usable
returns-clause-usable g c =
    let links = c.args.cell.now.links in
    let P = λ (i : ℕ) (p : g.row.L-Pass.Denot). IsUsable g.L.Links links p × (agent g.L.Links links p ≡ i) in
    let was : EachAt P (c.pop.new.self.items ++ c.in_ok-second.second ∷ []) = subst (EachAt P) c.in_ok-second.ensures.items c.requires.usable in
    let after = c.in_ok-answers.ensures in
    let passes = c.first_publishes_around.new.passes.items in
    let second = c.first_publishes_around.new.second in
    let pushed : c.push.new.self.items ≡ passes ++ second ∷ [] = search rules in
    subst (EachAt P) (sym pushed) (with_last P passes second after.usable
    (after.second, after.agent ∙ ((of_last P c.pop.new.self.items c.in_ok-second.second was).1 ∙ sym after.many)))
