-- Where the turn's search begins, and what it found.
use Rattle.std.proofs.Common.{arith, refl, subst, ◌*◌, ◌+◌, ◌≡◌}
use Rattle.orc_heap.proofs.Pieces.{goes_on}
use Rattle.orc_history.specs.declared.set.SetEntry.TheVariants.{Added}
use Rattle.orc_ordered_search.specs.Inserts.{Inserts}
use Rattle.orc_ordered_search.specs.declared.turn.InsertTurn.{InsertTurn}
use Rattle.orc_ordered_search.specs.declared.turn.InsertTurn.TheVariants.{NoNode, Over}
use Rattle.orc_ordered_search.proofs.Inserting.{has_room, keeps_on}
use Rattle.orc_ordered_search.proofs.Making.{found_over}
use Rattle.orc_heap.specs.Moves.{gives_in}
use Rattle.orc_ordered_search.specs.Turns.{made_from}
use Rattle.orc_heap.proofs.Parting.{part_of_next}
use Rattle.orc_ordered_search.proofs.Preceding.{inserts_after, keeps_after}
use Rattle.orc_split_rule.specs.SplitDiscipline.{size_of}
use Rattle.orc_split_rule.specs.SplitOrder.{bucket_of, key_place}
use Rattle.orc_split_set.specs.Beginnings.{seat_before}
use Rattle.orc_split_set.specs.SplitSearches.{split_reading}
use Rattle.orc_ordered_search.proofs.Absent.{absent_next}
use Rattle.orc_split_set.proofs.Crowding.{seen_grows, turn_counts}
use Rattle.orc_split_set.proofs.Ordered.{split_ordering}
use Rattle.orc_split_set.proofs.Passes.{seen_on}
use Rattle.orc_split_set.proofs.FewEvents.{few_begun_giving, few_short}
use Rattle.orc_split_set.proofs.insert.insert_turn.Goals as goal

-- a turn that is over lacks no node
over_lacks : Over ≡ NoNode → ⊥
over_lacks is = cc

pub begin-requires-clause-room : goal.begin-requires-clause-room
begin-requires-clause-room g c =
    let (slots, room, k) = c.requires.keeps in
    has_room (split_reading _) c.args.key 1 c.args.node slots _ room k

pub insert_from-requires-clause-begins : goal.insert_from-requires-clause-begins
insert_from-requires-clause-begins g c =
    let d = c.args.links.now in
    let n = g.L.Links.numbers d in
    let s = g.L.Links.seat d c.args.p.now in
    let t = g.L.Links.seat d c.begin.new.p in
    let (slots, room, k) = c.requires.keeps in
    let b = c.in-From.ensures.begun in
    let all = g.met.L.Links.allowed d c.begin.new.p c.in-From.ensures.pass in
    let kept = keeps_after (split_ordering n) c.args.key 1 c.args.node slots s (seat_before s t) b.own k b.quiet refl
    (g.met.L.Links.obeys d c.args.p.now c.requires.pass) all in
    (b.start, slots, seat_before s t, room, kept, b.begins)

pub returns-in-Moved-clause-inserted : goal.returns-in-Moved-clause-inserted
returns-in-Moved-clause-inserted g c = λ slots room k.
    let e = c.in-Moved.ensures in
    keeps_on (split_ordering _) c.args.key 1 c.args.node slots _ _ k (found_over (split_reading _) _ _ e.begun)
    (g.met.L.Links.obeys _ _ c.requires.pass) (g.met.L.Links.allowed _ _ e.pass)

pub returns-in-From-clause-inserted : goal.returns-in-From-clause-inserted
returns-in-From-clause-inserted g c = λ slots room k.
    let d = c.args.links.now in
    let n = g.L.Links.numbers d in
    let s = g.L.Links.seat d c.args.p.now in
    let t = g.L.Links.seat d c.begin.new.p in
    let u = g.L.Links.seat d c.insert_from.new.p in
    let b = c.in-From.ensures.begun in
    let all = g.met.L.Links.allowed d c.begin.new.p c.in-From.ensures.pass in
    let kept = keeps_after (split_ordering n) c.args.key 1 c.args.node slots s (seat_before s t) b.own k b.quiet refl
    (g.met.L.Links.obeys d c.args.p.now c.requires.pass) all in
    inserts_after (split_reading n) s (seat_before s t) u b.own b.quiet c.args.key 1 (λ answer. Added s.agent c.args.key answer) slots c.args.node
    c.insert_from.result.1 c.insert_from.result.0 (c.insert_from.ensures.inserted b.start slots (seat_before s t) room kept b.begins)

pub returns-in-From-clause-lacking : goal.returns-in-From-clause-lacking
returns-in-From-clause-lacking g c = λ told.
    let x = c.in-From.ensures in
    let f = c.insert_from.ensures in
    part_of_next g.L.Links _ c.args.p.now c.begin.new.p c.insert_from.new.p x.begun.begins.begins.agent x.later f.later (g.L.Links.lacking _) (f.lacking told)

pub returns-in-From-clause-worn : goal.returns-in-From-clause-worn
returns-in-From-clause-worn g c = λ why told.
    let d = c.args.links.now in
    let x = c.in-From.ensures in
    let f = c.insert_from.ensures in
    part_of_next g.L.Links d c.args.p.now c.begin.new.p c.insert_from.new.p x.begun.begins.begins.agent x.later f.later (λ agent. g.L.Links.worn d agent why)
    (f.worn why told)

pub returns-in-From-clause-counted : goal.returns-in-From-clause-counted
returns-in-From-clause-counted g c = λ many is.
    let d = c.args.links.now in
    let n = g.L.Links.numbers d in
    let s = g.L.Links.seat d c.args.p.now in
    let t = g.L.Links.seat d c.begin.new.p in
    let u = g.L.Links.seat d c.insert_from.new.p in
    let (slots, room, k) = c.requires.keeps in
    let b = c.in-From.ensures.begun in
    let all = g.met.L.Links.allowed d c.begin.new.p c.in-From.ensures.pass in
    let kept = keeps_after (split_ordering n) c.args.key 1 c.args.node slots s (seat_before s t) b.own k b.quiet refl
    (g.met.L.Links.obeys d c.args.p.now c.requires.pass) all in
    let e = c.insert_from.ensures in
    let grows = seen_grows (g.L.Links.events d) g.L.Links.agent_of (g.met.L.Links.steps_add d) (g.L.Links.journal c.begin.new.p)
    (g.L.Links.journal c.insert_from.new.p) t u e.later (g.met.L.Links.seen_is d c.begin.new.p c.in-From.ensures.pass)
    (g.met.L.Links.seen_is d c.insert_from.new.p e.pass) in
    let bucket = bucket_of c.args.key (size_of n s.seen) in
    turn_counts n c.args.key many s (seat_before s t) u b.own bucket b.quiet grows (λ sees. refl)
    (λ sees. e.counted b.start slots (seat_before s t) room kept b.begins bucket many
    (b.near (record { part = sees.part; is = sees.is; own = sees.own })).0 is)

pub returns-in-From-clause-absent : goal.returns-in-From-clause-absent
returns-in-From-clause-absent g c = λ is.
    let d = c.args.links.now in
    let n = g.L.Links.numbers d in
    let s = g.L.Links.seat d c.args.p.now in
    let t = g.L.Links.seat d c.begin.new.p in
    let u = g.L.Links.seat d c.insert_from.new.p in
    let (slots, room, k) = c.requires.keeps in
    let b = c.in-From.ensures.begun in
    let all = g.met.L.Links.allowed d c.begin.new.p c.in-From.ensures.pass in
    let kept = keeps_after (split_ordering n) c.args.key 1 c.args.node slots s (seat_before s t) b.own k b.quiet refl
    (g.met.L.Links.obeys d c.args.p.now c.requires.pass) all in
    let e = c.insert_from.ensures in
    let ends = subst (λ (turn : InsertTurn). Inserts (split_reading n) c.args.key 1 (λ answer. Added s.agent c.args.key answer) 1 slots c.args.node
    (seat_before s t) turn c.insert_from.result.1 u) is (e.inserted b.start slots (seat_before s t) room kept b.begins) in
    absent_next (split_ordering n) (key_place c.args.key) s (seat_before s t) u b.own b.quiet.puts ends.0 ends.1.made.puts (e.absent b.start slots (seat_before s t) room kept b.begins is)

pub returns-in-Moved-clause-absent : goal.returns-in-Moved-clause-absent
returns-in-Moved-clause-absent g c = λ is. absurd (over_lacks is)

pub returns-in-Moved-clause-lacking : goal.returns-in-Moved-clause-lacking
returns-in-Moved-clause-lacking g c = λ is. absurd (over_lacks is)

pub returns-in-Moved-clause-tries : goal.returns-in-Moved-clause-tries
returns-in-Moved-clause-tries g c = λ k low.
    let s = g.L.Links.seat c.args.links.now c.args.p.now in
    let t = g.L.Links.seat c.args.links.now c.begin.new.p in
    let e = c.in-Moved.ensures in
    few_short (6 + 2 * k) (2 + 2 * k) (3 * gives_in (made_from s t)) s t e.agent
    (seen_on g.L.Links g.met.L.Links.steps_add g.met.L.Links.seen_is c.args.links.now c.args.p.now c.begin.new.p c.requires.pass e.pass e.later) (e.tries k low) (omega arith)

pub returns-in-From-clause-tries : goal.returns-in-From-clause-tries
returns-in-From-clause-tries g c = λ k low.
    let s = g.L.Links.seat c.args.links.now c.args.p.now in
    let t = g.L.Links.seat c.args.links.now c.begin.new.p in
    let u = g.L.Links.seat c.args.links.now c.insert_from.new.p in
    let e = c.in-From.ensures in
    let f = c.insert_from.ensures in
    let on = seen_on g.L.Links g.met.L.Links.steps_add g.met.L.Links.seen_is c.args.links.now in
    few_begun_giving (2 + 2 * k) (6 + 2 * k) s t u e.agent (on c.args.p.now c.begin.new.p c.requires.pass e.pass e.later)
    (on c.begin.new.p c.insert_from.new.p e.pass f.pass f.later) (e.tries k low) f.tries (omega arith)

pub insert_from-requires-clause-pass : goal.insert_from-requires-clause-pass
insert_from-requires-clause-pass g c = c.in-From.ensures.pass

pub returns-in-Moved-clause-pass : goal.returns-in-Moved-clause-pass
returns-in-Moved-clause-pass g c = c.in-Moved.ensures.pass

pub returns-in-Moved-clause-later : goal.returns-in-Moved-clause-later
returns-in-Moved-clause-later g c = c.in-Moved.ensures.later

pub returns-in-From-clause-pass : goal.returns-in-From-clause-pass
returns-in-From-clause-pass g c = c.insert_from.ensures.pass

pub returns-in-From-clause-later : goal.returns-in-From-clause-later
returns-in-From-clause-later g c = goes_on _ _ _ c.in-From.ensures.later c.insert_from.ensures.later
