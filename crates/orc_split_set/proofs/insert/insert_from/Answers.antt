-- By what the search found.
use Rattle.std.proofs.Common.{refl, subst}
use Rattle.orc_heap.proofs.Pieces.{goes_on}
use Rattle.orc_heap.proofs.Parting.{part_of_later}
use Rattle.orc_heap.specs.Seats.{Seat}
use Rattle.orc_heap.specs.Slots.{Slots}
use Rattle.orc_heap.specs.declared.events.Place.{Place}
use Rattle.orc_ordered_search.specs.Inserts.{HasRoomFor, KeepsNode, Sought}
use Rattle.orc_ordered_search.specs.Steps.{Finds}
use Rattle.orc_ordered_search.specs.declared.walk.Searched.{Searched}
use Rattle.orc_ordered_search.proofs.Inserting.{has_room}
use Rattle.orc_ordered_search.proofs.Seeking.{found_quiet}
use Rattle.orc_split_rule.specs.SplitOrder.{key_place}
use Rattle.orc_split_rule.specs.declared.split.SplitNote.{SplitNote}
use Rattle.orc_split_set.specs.SplitSearches.{BeginsAt, split_reading}
use Rattle.orc_split_set.proofs.Asking.{puts_since}
use Rattle.orc_split_set.proofs.Crowding.{absent_counts, seen_grows}
use Rattle.orc_split_set.proofs.insert.insert_from.Given.{Over}
use Rattle.orc_split_set.proofs.insert.insert_from.Goals.{After-search_for-found}
use Rattle.orc_history.specs.declared.set.SetEntry.TheVariants.{Added}
use Rattle.orc_split_set.proofs.FewEvents.{few_given, inserts_agent}
use Rattle.orc_split_set.proofs.insert.insert_from.Goals as goal

-- the search was one with the node in hand
abbrev sought : (g : Over) (c : After-search_for-found g) → let d = c.args.links.now in let n = g.L.Links.numbers d in
    (start : Place) (slots : Slots) (s : Seat SplitNote) → HasRoomFor slots → KeepsNode (split_reading n) c.args.key 1 c.args.node slots s
    → BeginsAt n start (key_place c.args.key) c.args.left s (g.L.Links.seat d c.args.p.now)
    → Sought (split_reading n) (key_place c.args.key) c.args.key 1 c.args.node c.search_for-found.result (g.L.Links.seat d c.search_for-found.new.p)
sought g c = λ start slots s room k b. record {
  start = start;
  slots = slots;
  begun = s;
  room = room;
  keeps = k;
  finds = c.search_for-found.ensures.found start s
      (has_room (split_reading _) c.args.key 1 c.args.node slots s room k) b;
}

pub search_for-found-requires-clause-begins : goal.search_for-found-requires-clause-begins
search_for-found-requires-clause-begins g c =
    let (start, slots, s, room, k, b) = c.requires.begins in
    (start, s, has_room (split_reading _) c.args.key 1 c.args.node slots s room k, b)

pub insert_found-requires-clause-root : goal.insert_found-requires-clause-root
insert_found-requires-clause-root g c = (c.requires.roots, refl)

pub insert_found-requires-clause-sought : goal.insert_found-requires-clause-sought
insert_found-requires-clause-sought g c =
    let (start, slots, s, room, k, b) = c.requires.begins in
    sought g (goal.at.insert_found-requires-clause-sought g c).After-search_for-found start slots s room k b

pub returns-clause-inserted : goal.returns-clause-inserted
returns-clause-inserted g c = λ start slots s room k b.
    c.insert_found.ensures.inserted (sought g (goal.at.returns-clause-inserted g c).After-search_for-found start slots s room k b)

pub returns-clause-lacking : goal.returns-clause-lacking
returns-clause-lacking g c = λ told.
    let (start, slots, s, room, k, b) = c.requires.begins in
    let e = c.search_for-found.ensures in
    let f = c.insert_found.ensures in
    let a = sought g (goal.at.returns-clause-lacking g c).After-search_for-found start slots s room k b in
    let (own, q) = found_quiet (split_reading _) start (key_place c.args.key) s c.search_for-found.result _ a.finds in
    part_of_later g.L.Links g.met.L.Links.steps_add g.met.L.Links.seen_is _ _ c.search_for-found.new.p c.insert_found.new.p own c.requires.pass e.pass
    (puts_since s _ _ own b.begins.seen b.begins.agent q.puts) q.some e.later f.later (g.L.Links.lacking _) (f.lacking told)

pub returns-clause-worn : goal.returns-clause-worn
returns-clause-worn g c = λ why told.
    let d = c.args.links.now in
    let (start, slots, s, room, k, b) = c.requires.begins in
    let e = c.search_for-found.ensures in
    let f = c.insert_found.ensures in
    let a = sought g (goal.at.returns-clause-worn g c).After-search_for-found start slots s room k b in
    let (own, q) = found_quiet (split_reading _) start (key_place c.args.key) s c.search_for-found.result _ a.finds in
    part_of_later g.L.Links g.met.L.Links.steps_add g.met.L.Links.seen_is _ _ c.search_for-found.new.p c.insert_found.new.p own c.requires.pass e.pass
    (puts_since s _ _ own b.begins.seen b.begins.agent q.puts) q.some e.later f.later (λ agent. g.L.Links.worn d agent why)
    (f.worn why told)

pub returns-clause-counted : goal.returns-clause-counted
returns-clause-counted g c = λ start slots s room k b bucket many by is.
    let d = c.args.links.now in
    let n = g.L.Links.numbers d in
    let t = g.L.Links.seat d c.search_for-found.new.p in
    let u = g.L.Links.seat d c.insert_found.new.p in
    let x = c.search_for-found.ensures in
    let e = c.insert_found.ensures in
    let a = sought g (goal.at.returns-clause-counted g c).After-search_for-found start slots s room k b in
    let added = e.added a many is in
    let f = subst (λ (y : Searched). Finds (split_reading n) start (key_place c.args.key) s y t) added.found_is a.finds in
    let grows = seen_grows (g.L.Links.events d) g.L.Links.agent_of (g.met.L.Links.steps_add d) (g.L.Links.journal c.search_for-found.new.p)
    (g.L.Links.journal c.insert_found.new.p) t u e.later (g.met.L.Links.seen_is d c.search_for-found.new.p x.pass)
    (g.met.L.Links.seen_is d c.insert_found.new.p e.pass) in
    absent_counts n start bucket c.args.key many added.left added.first added.right s t u f (g.met.L.Links.obeys d c.search_for-found.new.p x.pass)
    (g.met.L.Links.allowed d c.search_for-found.new.p x.pass) by grows

pub returns-clause-absent : goal.returns-clause-absent
returns-clause-absent g c = λ start slots s room k b is.
    c.insert_found.ensures.absent (sought g (goal.at.returns-clause-absent g c).After-search_for-found start slots s room k b) is

pub returns-clause-tries : goal.returns-clause-tries
returns-clause-tries g c =
    let d = c.args.links.now in
    let (start, slots, s, room, k, b) = c.requires.begins in
    let a = sought g (goal.at.returns-clause-tries g c).After-search_for-found start slots s room k b in
    let u = g.L.Links.seat d c.insert_found.new.p in
    let f = c.insert_found.ensures in
    few_given s (g.L.Links.seat d c.args.p.now) u b.begins.seen b.begins.agent
    (inserts_agent (split_reading (g.L.Links.numbers d)) c.args.key 1 (λ yes. Added s.agent c.args.key yes) slots c.args.node c.insert_found.result.1 s u
    c.insert_found.result.0 (f.inserted a)) (f.few a)

pub insert_found-requires-clause-pass : goal.insert_found-requires-clause-pass
insert_found-requires-clause-pass g c = c.search_for-found.ensures.pass

pub returns-clause-pass : goal.returns-clause-pass
returns-clause-pass g c = c.insert_found.ensures.pass

pub returns-clause-later : goal.returns-clause-later
returns-clause-later g c = goes_on _ _ _ c.search_for-found.ensures.later c.insert_found.ensures.later
