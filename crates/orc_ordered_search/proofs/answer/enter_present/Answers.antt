-- One load, and then all nodes are let go.
use Rattle.std.proofs.Common.{ap, ◌∙◌}
use Rattle.std.specs.Prelude.{Some, ℕ}
use Rattle.orc_heap.proofs.Pieces.{goes_on}
use Rattle.orc_heap.specs.Seats.{Seat, heap_of}
use Rattle.orc_heap.specs.declared.events.Place.{Place}
use Rattle.orc_heap.specs.declared.events.Place.TheVariants.{Next}
use Rattle.orc_ordered_chains.proofs.Acts.{rank_linked}
use Rattle.orc_ordered_chains.specs.Chains.{link_over}
use Rattle.orc_ordered_search.specs.Reading.{ordering_of, reading_by}
use Rattle.orc_ordered_search.specs.Searches.{FindsPresent, InHand, node_of}
use Rattle.orc_ordered_search.proofs.Answering.{present_allowed}
use Rattle.orc_ordered_search.proofs.Entering.{entered_at, tested_hand, tests_once}
use Rattle.orc_ordered_search.proofs.Held.{present_hand}
use Rattle.orc_ordered_search.proofs.Removing.{reads_node}
use Rattle.orc_ordered_search.proofs.Seen.{present_few}
use Rattle.orc_ordered_search.proofs.answer.enter_present.Given.{Over}
use Rattle.orc_ordered_search.proofs.answer.enter_present.Goals.{After-same-entered}
use Rattle.orc_ordered_search.proofs.answer.enter_present.Goals as goal

-- the nodes of the search are in hand on
hands : (g : Over) (c : After-same-entered g) → let d = c.args.links.now in let r = reading_by (g.L.Links.numbers d) g.K.Rank.manner in let a = c.args in
    (start : Place) (passed : ℕ) (s : Seat g.row.K-Rule-Note.Denot)
    (f : FindsPresent r start (g.K.SetRank.key_rank a.key) passed a.left a.first a.node a.next s (g.L.Links.seat d a.p.now))
    → InHand r s.slots a.left a.first (Some a.node) a.next (g.L.Links.seat d c.same-entered.new.p)
hands g c = λ start passed s f.
    let a = c.args in
    let e = c.same-entered.ensures in
    let ord = ordering_of (g.met.K.Rank.ordered _) in
    tested_hand ord s.slots a.left a.first (Some a.node) a.next _ _ _ _ _ _ e.tested
    (g.met.L.Links.allowed _ _ e.pass) (present_hand ord start (g.K.SetRank.key_rank a.key) passed a.left a.first s _ a.node a.next f)

pub same-entered-requires-clause-pass : goal.same-entered-requires-clause-pass
same-entered-requires-clause-pass g c = c.requires.pass

pub same-entered-requires-clause-place : goal.same-entered-requires-clause-place
same-entered-requires-clause-place g c =
    let a = c.args in
    let (start, passed, s, f) = c.requires.present in
    (reads_node (ordering_of (g.met.K.Rank.ordered _)) f).node_held

pub same-entered-requires-clause-link : goal.same-entered-requires-clause-link
same-entered-requires-clause-link g c =
    let a = c.args in
    let t = g.L.Links.seat _ a.p.now in
    let (start, passed, s, f) = c.requires.present in
    c.link_to.ensures.held t.slots (reads_node (ordering_of (g.met.K.Rank.ordered _)) f).next_held

pub same-entered-requires-clause-allowed : goal.same-entered-requires-clause-allowed
same-entered-requires-clause-allowed g c =
    let a = c.args in
    let t = g.L.Links.seat _ a.p.now in
    let (start, passed, s, f) = c.requires.present in
    let ord = ordering_of (g.met.K.Rank.ordered _) in
    let r = reads_node ord f in
    present_allowed ord g.K.SetRank.key_rank g.K.SetRank.noted (g.met.K.SetRank.allows_presence _) start a.key passed a.left a.first a.node a.next s t f _ _ _
    a.entry (ap Next r.id_is) (c.link_to.ensures.link t.slots ∙ ap link_over r.next_is) c.note-note.ensures c.requires.entry
    (g.met.L.Links.obeys _ _ c.requires.pass)

pub let_all_go-requires-clause-pass : goal.let_all_go-requires-clause-pass
let_all_go-requires-clause-pass g c = c.same-entered.ensures.pass

pub let_all_go-requires-clause-hands : goal.let_all_go-requires-clause-hands
let_all_go-requires-clause-hands g c =
    let (start, passed, s, f) = c.requires.present in
    (s.slots, hands g (goal.at.let_all_go-requires-clause-hands g c).After-same-entered start passed s f)

pub returns-clause-pass : goal.returns-clause-pass
returns-clause-pass g c = c.let_all_go.ensures.pass

pub returns-clause-later : goal.returns-clause-later
returns-clause-later g c = goes_on _ _ _ c.same-entered.ensures.later c.let_all_go.ensures.later

pub returns-clause-entered : goal.returns-clause-entered
returns-clause-entered g c = λ start passed s f.
    let a = c.args in
    let t = g.L.Links.seat _ a.p.now in
    let e = c.same-entered.ensures in
    let ord = ordering_of (g.met.K.Rank.ordered _) in
    let wanted = g.K.SetRank.key_rank a.key in
    let r = reads_node ord f in
    let enters = ap (λ (z : g.row.K-Rule-Note.Denot). ord.reading.entries_in (Some z)) c.note-note.ensures ∙ g.met.K.SetRank.enters _ a.entry in
    entered_at ord s t _ _ f.own (Next f.id) (link_over (node_of a.next f.next_id)) c.note-note.result a.entry _ _
    c.same-entered.result f.behind.quiet (present_few ord.reading start wanted passed a.left a.first a.node a.next s t f) enters f.still
    (rank_linked ord.reading.order (heap_of _ t) f.id wanted f.is_of.has_key) (ap Next r.id_is) (c.link_to.ensures.link t.slots ∙ ap link_over r.next_is)
    e.tested (c.let_all_go.ensures.gone s.slots (hands g (goal.at.returns-clause-entered g c).After-same-entered start passed s f))
    (g.met.L.Links.allowed _ _ e.pass)

pub returns-clause-load : goal.returns-clause-load
returns-clause-load g c =
    let (start, passed, s, f) = c.requires.present in
    tests_once _ _ _ c.same-entered.result _ _ _ c.same-entered.ensures.tested
    (c.let_all_go.ensures.gone s.slots (hands g (goal.at.returns-clause-load g c).After-same-entered start passed s f)).puts
