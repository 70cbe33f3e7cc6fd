-- The node is aimed, and then linked.
use Rattle.std.proofs.Common.{None, Option, Some, [], ap, refl, subst, sym, ◌∙◌, ◌∷◌, ◌≡◌, ◌≢◌, ℕ}
use Rattle.std.proofs.lemmas.Result.{err_from_is_err_and}
use Rattle.orc_heap.proofs.Hands.{holds_of}
use Rattle.orc_heap.proofs.Pieces.{goes_on}
use Rattle.orc_heap.specs.Calls.{event_of}
use Rattle.orc_heap.specs.OwnEvents.{Only}
use Rattle.orc_heap.specs.Slots.{Holds, Slots}
use Rattle.orc_heap.specs.declared.events.Act.TheVariants.{Aim}
use Rattle.orc_ordered_chains.specs.Chains.{link_over}
use Rattle.orc_ordered_search.specs.Reading.{ordering_of}
use Rattle.orc_ordered_search.specs.Searches.{HoldsIfAny, first_or, left_place, node_of, place_at, target_at}
use Rattle.orc_ordered_search.proofs.Adding.{adds_held, adds_link, adds_place, adds_right}
use Rattle.orc_ordered_search.proofs.Linking.{above_not_fresh, aim_only, aim_refused, borrow_held, link_allowed, links_to}
use Rattle.orc_ordered_search.proofs.Marking.{not_fresh_at, part_fact, worn_since}
use Rattle.orc_ordered_search.proofs.Quiets.{below_puts, left_place_begins}
use Rattle.orc_ordered_search.proofs.insert.link_node.Given.{Over}
use Rattle.orc_ordered_search.proofs.insert.link_node.Goals.{In_ok-aim}
use Rattle.orc_ordered_search.proofs.insert.link_node.Goals as goal

-- the Aim is all that was made
only : (g : Over) (c : In_ok-aim g) → let d = c.args.links.now in let a = c.requires.adds in let s = g.L.Links.seat d c.args.p.now in
    Only (event_of s (Aim a.at.id (node_of c.args.right.now a.at.right_id)) None ∷ []) s (g.L.Links.seat d c.aim.new.p)
only g c =
    let a = c.requires.adds in
    let x = ordering_of (g.met.K.Rank.ordered _) in
    aim_only _ _ c.args.node.now a.at.id c.args.right.now _ _ c.node_in.ensures
    (adds_right x a.start a.wanted a.value a.kind c.args.left.now c.args.first.now c.args.right.now c.args.node.now a.given a.slots a.begun _ a.at)
    a.at.holds.held c.in_ok-aim.ensures.aimed

-- the target isn't the node
apart : (g : Over) (c : In_ok-aim g) → let a = c.requires.adds in node_of c.args.right.now a.at.right_id ≢ Some a.at.id
apart g c = λ is.
    let d = c.args.links.now in
    let a = c.requires.adds in
    let x = ordering_of (g.met.K.Rank.ordered (g.L.Links.numbers d)) in
    above_not_fresh x (g.L.Links.seat d c.args.p.now) (node_of c.args.right.now a.at.right_id) a.wanted a.at.above
    (λ i h. g.met.L.Links.fresh_is d c.args.p.now i c.requires.pass h) a.at.id is a.at.holds.fresh

place_is : (g : Over) (c : In_ok-aim g) (after : Slots) → after ≡ (g.L.Links.seat c.args.links.now c.args.p.now).slots → let d = c.args.links.now in
    let a = c.requires.adds in let x = ordering_of (g.met.K.Rank.ordered (g.L.Links.numbers d)) in
    place_at after c.args.root c.args.left.now ≡ left_place (x.reading.order.root a.wanted) c.args.left.now a.at.left_id
place_is g c = λ after same.
    let a = c.requires.adds in
    let x = ordering_of (g.met.K.Rank.ordered _) in
    let s = g.L.Links.seat _ c.args.p.now in
    ap (λ (z : Slots). place_at z c.args.root c.args.left.now) same ∙ (ap (λ (r : ℕ). place_at s.slots r c.args.left.now) a.root_is
    ∙ adds_place x a.start a.wanted a.value a.kind c.args.left.now c.args.first.now c.args.right.now c.args.node.now a.given a.slots a.begun s a.at)

link_is : (g : Over) (c : In_ok-aim g) (after : Slots) → after ≡ (g.L.Links.seat c.args.links.now c.args.p.now).slots
    → link_over (target_at after (first_or c.args.first.now c.args.right.now)) ≡ c.requires.adds.at.leads.from
link_is g c = λ after same.
    let a = c.requires.adds in
    let x = ordering_of (g.met.K.Rank.ordered _) in
    ap (λ (z : Slots). link_over (target_at z (first_or c.args.first.now c.args.right.now))) same
    ∙ adds_link x a.start a.wanted a.value a.kind c.args.left.now c.args.first.now c.args.right.now c.args.node.now a.given a.slots a.begun
    _ a.at

pub aim-requires-clause-pass : goal.aim-requires-clause-pass
aim-requires-clause-pass g c = c.requires.pass

pub aim-requires-clause-fresh : goal.aim-requires-clause-fresh
aim-requires-clause-fresh g c =
    let s = g.L.Links.seat c.args.links.now c.args.p.now in
    let k = c.requires.adds.at.holds in
    let (held, is) = holds_of s.slots c.args.node.now c.requires.adds.at.id k.held in
    record { held = held; fresh = k.fresh ∙ ap (λ (i : ℕ). Some i) (sym is) }

pub aim-requires-clause-target : goal.aim-requires-clause-target
aim-requires-clause-target g c =
    let d = c.args.links.now in
    let a = c.requires.adds in
    let x = ordering_of (g.met.K.Rank.ordered _) in
    let s = g.L.Links.seat d c.args.p.now in
    let held = adds_held x a.start a.wanted a.value a.kind c.args.left.now c.args.first.now c.args.right.now c.args.node.now a.given a.slots a.begun s a.at in
    let right = adds_right x a.start a.wanted a.value a.kind c.args.left.now c.args.first.now c.args.right.now c.args.node.now a.given a.slots a.begun s a.at in
    borrow_held s c.args.right.now _ c.node_in.ensures held.2 (λ i e. above_not_fresh x s (node_of c.args.right.now a.at.right_id) a.wanted a.at.above
    (λ j h. g.met.L.Links.fresh_is d c.args.p.now j c.requires.pass h) i (sym right ∙ e))

pub aim-requires-clause-allowed : goal.aim-requires-clause-allowed
aim-requires-clause-allowed g c = λ more later fits. g.met.K.SetRank.allows_aim (g.L.Links.numbers c.args.links.now) _ _ _ _ fits

pub returns-in_err-aim-clause-pass : goal.returns-in_err-aim-clause-pass
returns-in_err-aim-clause-pass g c = c.in_err-aim.ensures.pass

pub returns-in_err-aim-clause-later : goal.returns-in_err-aim-clause-later
returns-in_err-aim-clause-later g c = c.in_err-aim.ensures.later

pub returns-in_err-aim-clause-linked : goal.returns-in_err-aim-clause-linked
returns-in_err-aim-clause-linked g c = λ a.
    let x = ordering_of (g.met.K.Rank.ordered _) in
    let r = err_from_is_err_and c.from_residual.result c.from_residual.ensures.1 in
    rw r.1 (aim_refused x _ _ c.in_err-aim.ensures.none)

pub returns-in_err-aim-clause-worn : goal.returns-in_err-aim-clause-worn
returns-in_err-aim-clause-worn g c =
    let s = g.L.Links.seat _ c.args.p.now in
    let e = c.in_err-aim.ensures in
    let r = err_from_is_err_and c.from_residual.result c.from_residual.ensures.1 in
    rw (r.1, r.2) (part_fact g.L.Links.agent_of s.agent _ _ (g.L.Links.worn _ s.agent c.in_err-aim.field-0.0 _) e.later e.worn)

pub swing-requires-clause-pass : goal.swing-requires-clause-pass
swing-requires-clause-pass g c = c.in_ok-aim.ensures.pass

pub swing-requires-clause-place : goal.swing-requires-clause-place
swing-requires-clause-place g c =
    let a = c.requires.adds in
    let x = ordering_of (g.met.K.Rank.ordered _) in
    let held = adds_held x a.start a.wanted a.value a.kind c.args.left.now c.args.first.now c.args.right.now c.args.node.now a.given a.slots a.begun _ a.at in
    c.place_of.ensures.held _ (g.L.Links.seat _ c.aim.new.p).slots c.requires.root
    (subst (λ (z : Slots). HoldsIfAny z c.args.left.now) (sym c.in_ok-aim.ensures.aimed.slots) held.0)

pub swing-requires-clause-linked : goal.swing-requires-clause-linked
swing-requires-clause-linked g c =
    let at = (goal.at.swing-requires-clause-linked g c).In_ok-aim in
    let d = c.args.links.now in
    let a = c.requires.adds in
    let x = ordering_of (g.met.K.Rank.ordered _) in
    let t = g.L.Links.seat d c.aim.new.p in
    let o = only g at in
    let e = c.in_ok-aim.ensures in
    let place = left_place (x.reading.order.root a.wanted) c.args.left.now a.at.left_id in
    not_fresh_at x t c.place_of.result place (c.place_of.ensures.place t.slots ∙ place_is g at t.slots o.slots)
    (left_place_begins x t a.wanted c.args.left.now a.at.left_id
    (below_puts x _ t _ o.puts (g.met.L.Links.allowed _ _ e.pass) place a.wanted a.at.leads.below))
    (λ i h. g.met.L.Links.fresh_is d c.aim.new.p i e.pass h)

pub swing-requires-clause-links : goal.swing-requires-clause-links
swing-requires-clause-links g c =
    let a = c.requires.adds in
    let x = ordering_of (g.met.K.Rank.ordered _) in
    let s = g.L.Links.seat _ c.args.p.now in
    let t = g.L.Links.seat _ c.aim.new.p in
    let same = c.in_ok-aim.ensures.aimed.slots in
    let held = adds_held x a.start a.wanted a.value a.kind c.args.left.now c.args.first.now c.args.right.now c.args.node.now a.given a.slots a.begun s a.at in (
      c.link_of.ensures.held t.slots (subst (λ (z : Slots). HoldsIfAny z c.args.first.now) (sym same) held.1)
          (subst (λ (z : Slots). HoldsIfAny z c.args.right.now) (sym same) held.2),
      subst (λ (z : Slots). Holds z c.args.node.now) (sym same) (holds_of s.slots c.args.node.now a.at.id a.at.holds.held).0,
    )

pub swing-requires-clause-allowed : goal.swing-requires-clause-allowed
swing-requires-clause-allowed g c =
    let at = (goal.at.swing-requires-clause-allowed g c).In_ok-aim in
    let a = c.requires.adds in
    let x = ordering_of (g.met.K.Rank.ordered _) in
    let t = g.L.Links.seat _ c.aim.new.p in
    let o = only g at in
    let e = c.in_ok-aim.ensures in
    link_allowed x a.wanted a.value a.kind c.args.note c.args.node.now a.at.id (node_of c.args.right.now a.at.right_id) _ t
    (left_place (x.reading.order.root a.wanted) c.args.left.now a.at.left_id) _ a.at.leads.from _ a.at.leads.over a.allowed a.at.holds o
    (g.met.L.Links.obeys _ _ c.requires.pass) (g.met.L.Links.obeys _ _ e.pass) (g.met.L.Links.allowed _ _ e.pass)
    (apart g at) (c.place_of.ensures.place t.slots ∙ place_is g at t.slots o.slots) (c.link_of.ensures.link t.slots ∙ link_is g at t.slots o.slots)
    a.at.leads.plain a.at.leads.below a.at.leads.run a.at.above

pub returns-clause-pass : goal.returns-clause-pass
returns-clause-pass g c = c.swing.ensures.pass

pub returns-clause-later : goal.returns-clause-later
returns-clause-later g c = goes_on _ _ _ c.in_ok-aim.ensures.later c.swing.ensures.later

pub returns-clause-linked : goal.returns-clause-linked
returns-clause-linked g c = λ a.
    let d = c.args.links.now in
    let x = ordering_of (g.met.K.Rank.ordered _) in
    let s = g.L.Links.seat d c.args.p.now in
    let t = g.L.Links.seat d c.aim.new.p in
    let e = c.in_ok-aim.ensures in
    let f = c.swing.ensures in
    let left = c.args.left.now in
    let first = c.args.first.now in
    let right = c.args.right.now in
    let to : Option ℕ = node_of c.args.right.now a.at.right_id in
    let o = aim_only s t _ a.at.id right _ to c.node_in.ensures
    (adds_right x a.start a.wanted a.value a.kind left first right _ a.given a.slots a.begun s a.at) a.at.holds.held e.aimed in
    let apart : to ≢ Some a.at.id = λ is. above_not_fresh x s to a.wanted a.at.above
    (λ i h. g.met.L.Links.fresh_is d c.args.p.now i c.requires.pass h) a.at.id is a.at.holds.fresh in
    let place = c.place_of.ensures.place t.slots ∙ (ap (λ (z : Slots). place_at z c.args.root left) o.slots ∙ (ap (λ (r : ℕ). place_at s.slots r left) a.root_is
    ∙ adds_place x a.start a.wanted a.value a.kind left first right _ a.given a.slots a.begun s a.at)) in
    let link = c.link_of.ensures.link t.slots ∙ (ap (λ (z : Slots). link_over (target_at z (first_or first right))) o.slots
    ∙ adds_link x a.start a.wanted a.value a.kind left first right _ a.given a.slots a.begun s a.at) in
    links_to x a.value a.kind c.args.note _ a.at.id to s t _ (left_place (x.reading.order.root a.wanted) left a.at.left_id) a.at.leads.from _ _ _
    c.swing.result a.at.holds o place link refl (g.met.L.Links.obeys _ _ c.requires.pass) (g.met.L.Links.allowed _ _ e.pass)
    (g.met.L.Links.allowed _ _ f.pass) apart f.swung f.none

pub returns-clause-worn : goal.returns-clause-worn
returns-clause-worn g c =
    let d = c.args.links.now in
    let s = g.L.Links.seat d c.args.p.now in
    let t = g.L.Links.seat d c.aim.new.p in
    let f = c.swing.ensures in
    worn_since (g.L.Links.worn d) g.L.Links.agent_of s.agent t.agent _ _
    _ (λ why xs more from to h. g.met.L.Links.worn_stays d s.agent why xs more from to h)
    c.in_ok-aim.ensures.aimed.puts.agent c.in_ok-aim.ensures.later f.later c.swing.result f.worn
