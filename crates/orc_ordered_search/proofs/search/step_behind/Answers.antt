-- The node is the left place from then on.
use Rattle.std.proofs.Common.{Bool, None, Some, [], ap, false, subst, sym, ℕ, ◌+◌, ◌∙◌, ◌∷◌}
use Rattle.orc_heap.proofs.Hands.{hands_swap}
use Rattle.orc_heap.proofs.Pieces.{goes_on}
use Rattle.orc_heap.specs.Hands.{hand}
use Rattle.orc_heap.specs.Seats.{Seat}
use Rattle.orc_heap.specs.declared.events.Place.{Place}
use Rattle.orc_ordered_search.specs.Searches.{LooksOn, Passed, count_on}
use Rattle.orc_ordered_search.proofs.Held.{goes_hands, second_held}
use Rattle.orc_ordered_search.proofs.Stepping.{passed_lower}
use Rattle.orc_ordered_search.specs.Reading.{ordering_of, reading_by}
use Rattle.orc_ordered_search.proofs.search.step_behind.Given.{Over}
use Rattle.orc_ordered_search.proofs.search.step_behind.Goals.{After-count_one-passed}
use Rattle.orc_ordered_search.proofs.search.step_behind.Goals as goal

-- the search has gone past the node, and counted it
passed : (g : Over) (c : After-count_one-passed g) → let d = c.args.links.now in let r = reading_by (g.L.Links.numbers d) g.K.Rank.manner in let a = c.args in
    let w = a.walk in let wanted = g.K.Rank.number a.wanted in (start : Place) (s : Seat g.row.K-Rule-Note.Denot)
    → LooksOn r start wanted w.left w.first w.at (g.K.Rank.number w.rank) (g.K.Rank.counted w.rank) w.passed false a.next s (g.L.Links.seat d a.p.now)
    → Passed r start wanted (g.K.Rank.number w.rank + 1) c.count_one-passed.result (Some w.at) None a.next s (g.L.Links.seat d c.let_go-2.new.p)
passed g c = λ start s looks.
    let d = c.args.links.now in
    let a = c.args in
    let w = a.walk in
    let x = ordering_of (g.met.K.Rank.ordered _) in
    let e = c.let_go.ensures in
    let f = c.let_go-2.ensures in
    subst (λ (k : ℕ). Passed x.reading start (g.K.Rank.number a.wanted) (g.K.Rank.number w.rank + 1) k (Some w.at) None a.next s (g.L.Links.seat d c.let_go-2.new.p))
    (sym (c.count_one-passed.ensures ∙ ap (λ (b : Bool). count_on b w.passed) c.is_counted.ensures))
    (passed_lower x start (g.K.Rank.number a.wanted) w.left w.first w.at (g.K.Rank.number w.rank) (g.K.Rank.counted w.rank) w.passed a.next s _ _ _ looks
    c.requires.lower e.let_go f.let_go (λ i h. g.met.L.Links.fresh_is d a.p.now i c.requires.pass h)
    (λ i h. g.met.L.Links.fresh_is d c.let_go.new.p i e.pass h) (g.met.L.Links.allowed _ _ e.pass) (g.met.L.Links.allowed _ _ f.pass))

pub let_go-requires : goal.let_go-requires
let_go-requires g c =
    let a = c.args.walk in
    let (start, s, w) = c.requires.looks in
    record { pass = c.requires.pass; held = second_held s.slots _ (hand c.args.next w.next_id) a.left w.left_id _ w.hands }

pub let_go-requires-2 : goal.let_go-requires-2
let_go-requires-2 g c =
    let a = c.args.walk in
    let e = c.let_go.ensures in
    let (start, s, w) = c.requires.looks in
    let x = hand c.args.next w.next_id in
    let rest = hand a.first w.first_id ∷ hand (Some a.at) w.id ∷ [] in
    let hands = goes_hands s.slots _ _ a.left w.left_id (x ∷ rest) e.let_go (hands_swap s.slots _ [] x (hand a.left w.left_id) rest w.hands) in
    record { pass = e.pass; held = second_held s.slots _ x a.first w.first_id _ hands }

pub go_on-requires-clause-pass : goal.go_on-requires-clause-pass
go_on-requires-clause-pass g c = c.let_go-2.ensures.pass

pub go_on-requires-clause-passed : goal.go_on-requires-clause-passed
go_on-requires-clause-passed g c =
    let (start, s, looks) = c.requires.looks in
    (start, g.K.Rank.number c.args.wanted, s, _, passed g (goal.at.go_on-requires-clause-passed g c).After-count_one-passed start s looks)

pub returns-clause-pass : goal.returns-clause-pass
returns-clause-pass g c = c.go_on.ensures.pass

pub returns-clause-later : goal.returns-clause-later
returns-clause-later g c = goes_on _ _ _ (goes_on _ _ _ c.let_go.ensures.later c.let_go-2.ensures.later) c.go_on.ensures.later

pub returns-clause-stepped : goal.returns-clause-stepped
returns-clause-stepped g c = λ start s looks.
    c.go_on.ensures.stepped start (g.K.Rank.number c.args.wanted) s _ (passed g (goal.at.returns-clause-stepped g c).After-count_one-passed start s looks)
