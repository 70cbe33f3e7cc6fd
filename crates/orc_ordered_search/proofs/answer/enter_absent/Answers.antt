-- One load, and then all nodes are let go.
use Rattle.std.proofs.Common.{None, ap, ◌∙◌}
use Rattle.orc_heap.proofs.Pieces.{goes_on}
use Rattle.orc_heap.specs.Seats.{Seat}
use Rattle.orc_heap.specs.declared.events.Place.{Place}
use Rattle.std.specs.Prelude.{Some, ℕ}
use Rattle.orc_ordered_search.specs.Reading.{ordering_of, reading_by}
use Rattle.orc_ordered_search.specs.Searches.{FindsAbsent, InHand, left_place}
use Rattle.orc_ordered_search.proofs.Answering.{absent_allowed, left_is, left_link}
use Rattle.orc_ordered_search.proofs.Entering.{entered_at, tested_hand, tests_once}
use Rattle.orc_ordered_search.proofs.Held.{absent_hand, first_held, second_held, third_held}
use Rattle.orc_ordered_search.proofs.Quiets.{left_place_linked}
use Rattle.orc_ordered_search.proofs.Seen.{absent_few}
use Rattle.orc_ordered_search.proofs.answer.enter_absent.Given.{Over}
use Rattle.orc_ordered_search.proofs.answer.enter_absent.Goals.{After-same-entered}
use Rattle.orc_ordered_search.proofs.answer.enter_absent.Goals as goal

-- the nodes of the search are in hand on
hands : (g : Over) (c : After-same-entered g) → let d = c.args.links.now in let r = reading_by (g.L.Links.numbers d) g.K.Rank.manner in let a = c.args in
    (start : Place) (passed : ℕ) (s : Seat g.row.K-Rule-Note.Denot)
    (f : FindsAbsent r start (g.K.SetRank.key_rank a.key) passed a.left a.first a.right s (g.L.Links.seat d a.p.now))
    → InHand r s.slots a.left a.first a.right None (g.L.Links.seat d c.same-entered.new.p)
hands g c = λ start passed s f.
    let a = c.args in
    let e = c.same-entered.ensures in
    let ord = ordering_of (g.met.K.Rank.ordered _) in
    tested_hand ord s.slots a.left a.first a.right None _ _ _ _ _ _ e.tested
    (g.met.L.Links.allowed _ _ e.pass) (absent_hand ord start (g.K.SetRank.key_rank a.key) passed a.left a.first s _ a.right f)

pub same-entered-requires-clause-pass : goal.same-entered-requires-clause-pass
same-entered-requires-clause-pass g c = c.requires.pass

pub same-entered-requires-clause-place : goal.same-entered-requires-clause-place
same-entered-requires-clause-place g c =
    let t = g.L.Links.seat _ c.args.p.now in
    let (start, passed, s, f) = c.requires.absent in
    c.place_of.ensures.held _ t.slots c.requires.root.0 (first_held s.slots t.slots _ f.left_id _ f.hands)

pub same-entered-requires-clause-link : goal.same-entered-requires-clause-link
same-entered-requires-clause-link g c =
    let t = g.L.Links.seat c.args.links.now c.args.p.now in
    let (start, passed, s, f) = c.requires.absent in
    c.link_of.ensures.held t.slots (second_held s.slots t.slots _ _ f.first_id _ f.hands) (third_held s.slots t.slots _ _ _ f.right_id _ f.hands)

pub same-entered-requires-clause-allowed : goal.same-entered-requires-clause-allowed
same-entered-requires-clause-allowed g c =
    let a = c.args in
    let t = g.L.Links.seat _ a.p.now in
    let (start, passed, s, f) = c.requires.absent in
    let ord = ordering_of (g.met.K.Rank.ordered _) in
    let wanted = g.K.SetRank.key_rank a.key in
    absent_allowed ord g.K.SetRank.key_rank g.K.SetRank.noted (g.met.K.SetRank.allows_absence _) start a.key passed a.left a.first a.right s t f _ _ _ a.entry
    (c.place_of.ensures.place t.slots ∙ left_is ord start wanted passed a.left a.first a.right s t f a.root c.requires.root.1)
    (c.link_of.ensures.link t.slots ∙ left_link ord start wanted passed a.left a.first a.right s t f) c.note-note.ensures c.requires.entry
    (g.met.L.Links.obeys _ _ c.requires.pass)

pub let_all_go-requires-clause-pass : goal.let_all_go-requires-clause-pass
let_all_go-requires-clause-pass g c = c.same-entered.ensures.pass

pub let_all_go-requires-clause-hands : goal.let_all_go-requires-clause-hands
let_all_go-requires-clause-hands g c =
    let (start, passed, s, f) = c.requires.absent in
    (s.slots, hands g (goal.at.let_all_go-requires-clause-hands g c).After-same-entered start passed s f)

pub returns-clause-pass : goal.returns-clause-pass
returns-clause-pass g c = c.let_all_go.ensures.pass

pub returns-clause-later : goal.returns-clause-later
returns-clause-later g c = goes_on _ _ _ c.same-entered.ensures.later c.let_all_go.ensures.later

pub returns-clause-entered : goal.returns-clause-entered
returns-clause-entered g c = λ start passed s f.
    let a = c.args in
    let t = g.L.Links.seat _ a.p.now in
    let e = c.same-entered.ensures in
    let l = f.behind.leads in
    let ord = ordering_of (g.met.K.Rank.ordered _) in
    let wanted = g.K.SetRank.key_rank a.key in
    let place = left_place (ord.reading.order.root wanted) a.left f.left_id in
    let enters = ap (λ (z : g.row.K-Rule-Note.Denot). ord.reading.entries_in (Some z)) c.note-note.ensures ∙ g.met.K.SetRank.enters _ a.entry in
    entered_at ord s t _ _ f.own place l.from c.note-note.result a.entry _ _ c.same-entered.result f.behind.quiet
    (absent_few ord.reading start wanted passed a.left a.first a.right s t f) enters l.still (left_place_linked ord t place wanted l.below)
    (c.place_of.ensures.place t.slots ∙ left_is ord start wanted passed a.left a.first a.right s t f a.root c.requires.root.1)
    (c.link_of.ensures.link t.slots ∙ left_link ord start wanted passed a.left a.first a.right s t f) e.tested
    (c.let_all_go.ensures.gone s.slots (hands g (goal.at.returns-clause-entered g c).After-same-entered start passed s f))
    (g.met.L.Links.allowed _ _ e.pass)

pub returns-clause-load : goal.returns-clause-load
returns-clause-load g c =
    let (start, passed, s, f) = c.requires.absent in
    tests_once _ _ _ c.same-entered.result _ _ _ c.same-entered.ensures.tested
    (c.let_all_go.ensures.gone s.slots (hands g (goal.at.returns-clause-load g c).After-same-entered start passed s f)).puts
