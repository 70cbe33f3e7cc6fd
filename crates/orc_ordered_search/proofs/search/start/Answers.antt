-- By what the first look found.
use Rattle.std.proofs.Common.{None, sym, ◌∙◌}
use Rattle.orc_heap.proofs.Pieces.{goes_on}
use Rattle.orc_heap.specs.Seats.{Seat}
use Rattle.orc_heap.specs.declared.events.Place.{Place}
use Rattle.orc_ordered_search.specs.Searches.{HasRoom, Passed}
use Rattle.orc_ordered_search.proofs.Starting.{start_looks, start_few}
use Rattle.orc_ordered_search.specs.Steps.{BeginsPlain}
use Rattle.orc_ordered_search.proofs.Ranking.{begin_held, begin_place, looks_from}
use Rattle.orc_ordered_search.specs.Reading.{ordering_of, reading_by}
use Rattle.orc_ordered_search.proofs.search.start.Given.{Over}
use Rattle.orc_ordered_search.proofs.search.start.Goals.{In-Stable}
use Rattle.orc_ordered_search.proofs.search.start.Goals as goal

-- the look found a link to this node, or a null one
passed : (g : Over) (c : In-Stable g) → let d = c.args.links.now in let n = g.L.Links.numbers d in let a = c.args in
    (place : Place) (s : Seat g.row.K-Rule-Note.Denot) → HasRoom s.slots → BeginsPlain (reading_by n g.K.Rank.manner) (g.K.Rule.Discipline.may n) place (g.K.Rank.number a.wanted) a.left s (g.L.Links.seat d a.p.now)
    → Passed (reading_by n g.K.Rank.manner) place (g.K.Rank.number a.wanted) 0 0 a.left None c.in-Stable.next s (g.L.Links.seat d c.look.new.p)
passed g c = λ place s room b.
    let a = c.args in
    let t = g.L.Links.seat _ a.p.now in
    let holds = g.met.L.Links.obeys _ _ c.requires.pass in
    let k = c.spare_slot-slot.ensures in
    let e = c.in-Stable.ensures in
    start_looks (ordering_of (g.met.K.Rank.ordered _)) place (g.K.Rank.number a.wanted) a.left s t _ b.begins holds b.plain
    (g.met.L.Links.allowed _ _ e.pass) c.spare_slot-slot.result _ c.in-Stable.next room k.range.0 k.range.1
    (λ e. k.left (e ∙ sym c.slot_of.ensures))
    (looks_from _ place c.spare_slot-slot.result _ t _ (c.place_of.ensures.place t.slots ∙ begin_place (reading_by _ g.K.Rank.manner) place a.root (g.K.Rank.number a.wanted) a.left s t c.requires.root.1 b.begins) e.looked)

pub look-requires-clause-place : goal.look-requires-clause-place
look-requires-clause-place g c =
    let t = g.L.Links.seat _ c.args.p.now in
    let (place, s, room, b) = c.requires.begins in
    c.place_of.ensures.held _ t.slots c.requires.root.0 (begin_held (reading_by _ g.K.Rank.manner) place (g.K.Rank.number c.args.wanted) c.args.left s t b.begins)

pub go_on-requires-clause-passed : goal.go_on-requires-clause-passed
go_on-requires-clause-passed g c =
    let (place, s, room, b) = c.requires.begins in
    (place, (g.K.Rank.number c.args.wanted), s, 0, passed g (goal.at.go_on-requires-clause-passed g c).In-Stable place s room b)

pub returns-in-Stable-clause-stepped : goal.returns-in-Stable-clause-stepped
returns-in-Stable-clause-stepped g c = λ place s room b.
    c.go_on.ensures.stepped place (g.K.Rank.number c.args.wanted) s 0 (passed g (goal.at.returns-in-Stable-clause-stepped g c).In-Stable place s room b)

pub returns-in-Moved-clause-stepped : goal.returns-in-Moved-clause-stepped
returns-in-Moved-clause-stepped g c = λ place s room b.
    let d = c.args.links.now in
    let t = g.L.Links.seat d c.args.p.now in
    let a = c.args in
    let e = c.in-Moved.ensures in
    start_few (ordering_of (g.met.K.Rank.ordered _)) place (g.K.Rank.number a.wanted) c.spare_slot-slot.result a.left s t _ _ b.begins
    (looks_from _ place c.spare_slot-slot.result _ t _ (c.place_of.ensures.place t.slots ∙ begin_place (reading_by _ g.K.Rank.manner) place a.root (g.K.Rank.number a.wanted) a.left s t c.requires.root.1 b.begins) e.looked)
    (g.met.L.Links.allowed _ _ e.pass) c.let_go.ensures.let_go (λ i h. g.met.L.Links.fresh_is d c.look.new.p i e.pass h)
    (g.met.L.Links.allowed _ _ c.let_go.ensures.pass)

pub go_on-requires-clause-pass : goal.go_on-requires-clause-pass
go_on-requires-clause-pass g c = c.in-Stable.ensures.pass

pub let_go-requires-clause-pass : goal.let_go-requires-clause-pass
let_go-requires-clause-pass g c = c.in-Moved.ensures.pass

pub returns-in-Stable-clause-pass : goal.returns-in-Stable-clause-pass
returns-in-Stable-clause-pass g c = c.go_on.ensures.pass

pub returns-in-Stable-clause-later : goal.returns-in-Stable-clause-later
returns-in-Stable-clause-later g c = goes_on _ _ _ c.in-Stable.ensures.later c.go_on.ensures.later

pub returns-in-Moved-clause-pass : goal.returns-in-Moved-clause-pass
returns-in-Moved-clause-pass g c = c.let_go.ensures.pass

pub returns-in-Moved-clause-later : goal.returns-in-Moved-clause-later
returns-in-Moved-clause-later g c = goes_on _ _ _ c.in-Moved.ensures.later c.let_go.ensures.later
