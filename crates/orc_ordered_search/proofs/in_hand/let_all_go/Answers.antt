-- One node after another is let go.
use Rattle.orc_heap.proofs.Pieces.{goes_on}
use Rattle.orc_ordered_search.specs.Reading.{ordering_of}
use Rattle.orc_ordered_search.proofs.Held.{first_held, four_go, goes_hands}
use Rattle.orc_ordered_search.proofs.in_hand.let_all_go.Goals as goal

pub let_go-requires : goal.let_go-requires
let_go-requires g c =
    let (s, w) = c.requires.hands in
    record { pass = c.requires.pass; held = first_held s _ c.args.left w.left_id _ w.hands }

pub let_go-requires-2 : goal.let_go-requires-2
let_go-requires-2 g c =
    let x = g.L.Links.seat _ c.let_go.new.p in
    let a = c.args in
    let e = c.let_go.ensures in
    let (s, w) = c.requires.hands in
    record { pass = e.pass; held = first_held s x.slots a.first w.first_id _ (goes_hands s _ x a.left w.left_id _ e.let_go w.hands) }

pub let_go-requires-3 : goal.let_go-requires-3
let_go-requires-3 g c =
    let x = g.L.Links.seat _ c.let_go-2.new.p in
    let a = c.args in
    let e = c.let_go-2.ensures in
    let (s, w) = c.requires.hands in
    let hands = goes_hands s _ x a.first w.first_id _ e.let_go (goes_hands s _ _ a.left w.left_id _ c.let_go.ensures.let_go w.hands) in
    record { pass = e.pass; held = first_held s x.slots a.at w.id _ hands }

pub let_go-requires-4-clause-pass : goal.let_go-requires-4-clause-pass
let_go-requires-4-clause-pass g c = c.let_go-3.ensures.pass

pub let_go-requires-4-clause-held : goal.let_go-requires-4-clause-held
let_go-requires-4-clause-held g c =
    let x = g.L.Links.seat _ c.let_go-3.new.p in
    let a = c.args in
    let (s, w) = c.requires.hands in
    let hands = goes_hands s _ x a.at w.id _ c.let_go-3.ensures.let_go (goes_hands s _ _ a.first w.first_id _ c.let_go-2.ensures.let_go
    (goes_hands s _ _ a.left w.left_id _ c.let_go.ensures.let_go w.hands)) in
    first_held s x.slots a.next w.next_id _ hands

pub returns-clause-pass : goal.returns-clause-pass
returns-clause-pass g c = c.let_go-4.ensures.pass

pub returns-clause-later : goal.returns-clause-later
returns-clause-later g c =
    goes_on _ _ _ (goes_on _ _ _ c.let_go.ensures.later c.let_go-2.ensures.later) (goes_on _ _ _ c.let_go-3.ensures.later c.let_go-4.ensures.later)

pub returns-clause-gone : goal.returns-clause-gone
returns-clause-gone g c = λ s w.
    let d = c.args.links.now in
    let a = c.args in
    let e = c.let_go.ensures in
    let f = c.let_go-2.ensures in
    let h = c.let_go-3.ensures in
    four_go (ordering_of (g.met.K.Rank.ordered _)) s _ _ _ _ _ a.left a.first a.at a.next w e.let_go f.let_go h.let_go c.let_go-4.ensures.let_go
    (λ i k. g.met.L.Links.fresh_is d a.p.now i c.requires.pass k) (λ i k. g.met.L.Links.fresh_is d c.let_go.new.p i e.pass k)
    (λ i k. g.met.L.Links.fresh_is d c.let_go-2.new.p i f.pass k) (λ i k. g.met.L.Links.fresh_is d c.let_go-3.new.p i h.pass k)
    (g.met.L.Links.allowed _ _ e.pass) (g.met.L.Links.allowed _ _ f.pass) (g.met.L.Links.allowed _ _ h.pass)
