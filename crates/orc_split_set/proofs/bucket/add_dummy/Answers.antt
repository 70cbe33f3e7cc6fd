-- With a new node, by what came of it, or without one.
use Rattle.std.proofs.Common.{Bool, Err, Ok, Some, [], ap, append-nil, arith, false, refl, subst, sym, true, ℕ, ◌*◌, ◌+◌, ◌∙◌, ◌≡◌}
use Rattle.orc_heap.proofs.Pieces.{goes_on}
use Rattle.orc_heap.specs.Seats.{Seat, heap_of}
use Rattle.orc_heap.specs.declared.events.Place.{Place}
use Rattle.orc_ordered_search.proofs.Adding.{absent_hand_on, give_free}
use Rattle.orc_ordered_search.proofs.Held.{release_goes}
use Rattle.orc_ordered_search.proofs.Inserting.{seen_holds}
use Rattle.orc_ordered_search.specs.Inserts.{AddsNode, HasRoomFor, slots_with}
use Rattle.orc_ordered_search.specs.Searches.{FindsAbsent}
use Rattle.orc_split_rule.specs.SplitDiscipline.{IsDummy}
use Rattle.orc_split_rule.specs.SplitOrder.{dummy_place}
use Rattle.orc_split_rule.specs.declared.split.SplitNote.{SplitNote}
use Rattle.orc_split_set.specs.Rootings.{HasNewDummy}
use Rattle.orc_split_set.specs.SplitSearches.{split_reading}
use Rattle.orc_split_set.specs.declared.bucket.Rooted.TheVariants.{Spent}
use Rattle.orc_split_set.proofs.Allowing.{dummy_added, dummy_to_add}
use Rattle.orc_split_set.proofs.Ordered.{split_ordering}
use Rattle.orc_split_set.proofs.Rooting.{added_roots, dummy_held, has_dummy, missed_roots, no_dummy, refused_roots}
use Rattle.orc_split_set.proofs.Stopping.{linked_stands, turn_held}
use Rattle.orc_split_set.proofs.Telling.{told_refused, told_wider}
use Rattle.orc_split_set.proofs.bucket.add_dummy.Given.{Over}
use Rattle.orc_split_set.proofs.bucket.add_dummy.Goals.{In-Ok, In-Ok-true}
use Rattle.orc_ordered_search.proofs.Seen.{absent_few}
use Rattle.orc_ordered_search.proofs.Since.{few_made}
use Rattle.orc_ordered_search.specs.Inserts.{NodeToAdd}
use Rattle.orc_ordered_search.specs.Turns.{made_from}
use Rattle.orc_ordered_search.specs.Ways.{IsFew}
use Rattle.orc_split_rule.specs.SplitDiscipline.{SplitHolds, SplitMay}
use Rattle.orc_split_rule.specs.declared.split.SplitNote.TheVariants.{Bucket}
use Rattle.orc_split_set.specs.FewEvents.{MadeFewBySearch}
use Rattle.orc_split_set.proofs.Crowding.{puts_grow}
use Rattle.orc_split_set.proofs.Passes.{seen_on}
use Rattle.orc_split_set.proofs.FewEvents.{few_dummy, few_ended, few_search, few_still, few_wider}
use Rattle.orc_split_set.proofs.bucket.add_dummy.Goals as goal

-- a dummy was given
new_dummy : (g : Over) (c : In-Ok g) → let d = c.args.links.now in let n = g.L.Links.numbers d in let a = c.args in
    (start : Place) (passed : ℕ) (s : Seat SplitNote) → HasRoomFor s.slots
    → FindsAbsent (split_reading n) start (dummy_place a.bucket) passed a.left a.first a.right s (g.L.Links.seat d a.p.now)
    → HasNewDummy n a.bucket a.left a.first a.right c.in-Ok.dummy s (g.L.Links.seat d c.give.new.p)
new_dummy g c = λ start passed s room f.
    let a = c.args in
    let e = c.in-Ok.ensures in
    has_dummy _ a.bucket start passed a.left a.first a.right s _ _ f room c.in-Ok.dummy _ c.from.ensures e.given (g.met.L.Links.allowed _ _ e.pass)

-- and linked
linked : (g : Over) (c : In-Ok-true g) → let d = c.args.links.now in let n = g.L.Links.numbers d in let a = c.args in let dummy = c.in-Ok.dummy in
    (s : Seat SplitNote) (w : HasNewDummy n a.bucket a.left a.first a.right dummy s (g.L.Links.seat d c.give.new.p))
    → AddsNode (split_reading n) a.bucket 0 [] dummy w.id 1 (slots_with s.slots (Some dummy) w.id) s (Ok true) (g.L.Links.seat d c.add_node.new.p)
linked g c = λ s w.
    let a = c.args in
    dummy_added _ a.bucket a.left a.first a.right c.in-Ok.dummy s _ _ w c.requires.bucket.0 c.requires.bucket.1 (Ok c.in-Ok-true.field-0) (Ok true)
    (ap (λ (b : Bool). Ok b) c.in-Ok-true.field-0-test) c.in-Ok-true.ensures.added

pub give-requires-clause-slot : goal.give-requires-clause-slot
give-requires-clause-slot g c =
    let d = c.args.links.now in
    let a = c.args in
    let t = g.L.Links.seat d a.p.now in
    let (start, passed, s, room, fresh, f) = c.requires.absent in
    give_free (split_ordering (g.L.Links.numbers d)) start (dummy_place a.bucket) passed a.bucket 0 a.left a.first a.right s t t f room.one

pub give-requires-clause-no_other : goal.give-requires-clause-no_other
give-requires-clause-no_other g c =
    let (start, passed, s, room, fresh, f) = c.requires.absent in
    f.behind.quiet.fresh ∙ fresh

pub add_node-requires-clause-adds : goal.add_node-requires-clause-adds
add_node-requires-clause-adds g c =
    let (start, passed, s, room, fresh, f) = c.requires.absent in
    let a = c.args in
    dummy_to_add _ a.bucket a.left a.first a.right c.in-Ok.dummy s _ (new_dummy g (goal.at.add_node-requires-clause-adds g c).In-Ok start passed s room f)
    c.requires.bucket.0 c.requires.bucket.1

pub anchor_and_go-requires-clause-dummy : goal.anchor_and_go-requires-clause-dummy
anchor_and_go-requires-clause-dummy g c =
    let (start, passed, s, room, fresh, f) = c.requires.absent in
    let a = c.args in
    let w = new_dummy g (goal.at.anchor_and_go-requires-clause-dummy g c).In-Ok start passed s room f in
    let added = linked g (goal.at.anchor_and_go-requires-clause-dummy g c).In-Ok-true s w in
    let n = g.L.Links.numbers _ in
    let u = g.L.Links.seat _ c.add_node.new.p in
    let held = dummy_held n a.bucket a.left a.first a.right c.in-Ok.dummy s _ u w added.slots_are in
    let k = c.in-Ok-true.ensures.linked (dummy_to_add n a.bucket a.left a.first a.right c.in-Ok.dummy s _ w c.requires.bucket.0
    c.requires.bucket.1) (ap (λ (b : Bool). Ok b) c.in-Ok-true.field-0-test) in
    let stands = linked_stands n a.bucket w.adds.id _ _ _ _ _ u k (g.met.L.Links.allowed _ _ c.in-Ok-true.ensures.pass) in
    (held.0, subst (λ (i : ℕ). IsDummy (heap_of n u) i a.bucket) (w.id_is ∙ sym held.1) stands)

pub release-requires-clause-held : goal.release-requires-clause-held
release-requires-clause-held g c =
    let (start, passed, s, room, fresh, f) = c.requires.absent in
    let a = c.args in
    let w = new_dummy g (goal.at.release-requires-clause-held g c).In-Ok start passed s room f in
    turn_held _ a.bucket a.left a.first a.right c.in-Ok.dummy s _ _ w (Ok false)
    (dummy_added _ a.bucket a.left a.first a.right c.in-Ok.dummy s _ _ w c.requires.bucket.0 c.requires.bucket.1 (Ok c.in-Ok-false.field-0) (Ok false)
    (ap (λ (b : Bool). Ok b) c.in-Ok-false.field-0-test) c.in-Ok-false.ensures.added)

pub release-requires-in-Err-add_node-clause-held : goal.release-requires-in-Err-add_node-clause-held
release-requires-in-Err-add_node-clause-held g c =
    let (start, passed, s, room, fresh, f) = c.requires.absent in
    let a = c.args in
    let w = new_dummy g (goal.at.release-requires-in-Err-add_node-clause-held g c).In-Ok start passed s room f in
    turn_held _ a.bucket a.left a.first a.right c.in-Ok.dummy s _ _ w (Err c.in-Err-add_node.spent)
    (dummy_added _ a.bucket a.left a.first a.right c.in-Ok.dummy s _ _ w c.requires.bucket.0 c.requires.bucket.1 (Err c.in-Err-add_node.spent) (Err c.in-Err-add_node.spent) refl
    c.in-Err-add_node.ensures.added)

pub returns-in-Ok-true-clause-rooted : goal.returns-in-Ok-true-clause-rooted
returns-in-Ok-true-clause-rooted g c = λ start passed s room fresh f.
    let w = new_dummy g (goal.at.returns-in-Ok-true-clause-rooted g c).In-Ok start passed s room f in
    let added = linked g (goal.at.returns-in-Ok-true-clause-rooted g c).In-Ok-true s w in
    let k = c.anchor_and_go.ensures.anchored in
    let all = g.met.L.Links.allowed _ _ c.anchor_and_go.ensures.pass in
    added_roots _ c.args.bucket c.in-Ok.dummy w.id s _ _ w.room w.slot_is added.slots_are added c.anchor_and_go.result
    c.requires.bucket.0 c.requires.bucket.1 k (seen_holds (split_ordering _) k.mid _ [] k.gone.puts all) all

pub returns-in-Ok-true-clause-told : goal.returns-in-Ok-true-clause-told
returns-in-Ok-true-clause-told g c =
    let (start, passed, s, room, fresh, f) = c.requires.absent in
    let w = new_dummy g (goal.at.returns-in-Ok-true-clause-told g c).In-Ok start passed s room f in
    let added = linked g (goal.at.returns-in-Ok-true-clause-told g c).In-Ok-true s w in
    let e = c.in-Ok.ensures in
    told_wider g.L.Links g.met.L.Links.lacking_stays g.met.L.Links.worn_stays c.args.links.now c.args.p.now c.add_node.new.p c.anchor_and_go.new.p _
    (added.made.puts.agent ∙ (sym w.adds.puts.agent ∙ e.given.puts.agent)) (goes_on _ _ _ e.later c.in-Ok-true.ensures.later) ([], append-nil _)
    c.anchor_and_go.result c.anchor_and_go.ensures.told

pub returns-in-Ok-false-clause-rooted : goal.returns-in-Ok-false-clause-rooted
returns-in-Ok-false-clause-rooted g c = λ start passed s room fresh f.
    let a = c.args in
    let w = new_dummy g (goal.at.returns-in-Ok-false-clause-rooted g c).In-Ok start passed s room f in
    let missed = dummy_added _ a.bucket a.left a.first a.right c.in-Ok.dummy s _ _ w c.requires.bucket.0 c.requires.bucket.1 (Ok c.in-Ok-false.field-0) (Ok false)
    (ap (λ (b : Bool). Ok b) c.in-Ok-false.field-0-test) c.in-Ok-false.ensures.added in
    missed_roots _ a.bucket c.in-Ok.dummy w.id s _ _ w.room w.slot_is missed.slots_are missed
    (release_goes c.in-Ok.dummy _ _ c.release.ensures.released)

pub returns-in-Err-add_node-clause-rooted : goal.returns-in-Err-add_node-clause-rooted
returns-in-Err-add_node-clause-rooted g c = λ start passed s room fresh f.
    let a = c.args in
    let w = new_dummy g (goal.at.returns-in-Err-add_node-clause-rooted g c).In-Ok start passed s room f in
    let refused = dummy_added _ a.bucket a.left a.first a.right c.in-Ok.dummy s _ _ w c.requires.bucket.0 c.requires.bucket.1 (Err c.in-Err-add_node.spent) (Err c.in-Err-add_node.spent) refl
    c.in-Err-add_node.ensures.added in
    refused_roots _ a.bucket c.in-Ok.dummy w.id s _ _ w.room w.slot_is refused.slots_are c.in-Err-add_node.spent refused
    (release_goes c.in-Ok.dummy _ _ c.release-in-Err-add_node.ensures.released)

pub returns-in-Err-add_node-clause-told : goal.returns-in-Err-add_node-clause-told
returns-in-Err-add_node-clause-told g c =
    let why = c.in-Err-add_node.spent in
    told_wider g.L.Links g.met.L.Links.lacking_stays g.met.L.Links.worn_stays c.args.links.now c.args.p.now c.give.new.p c.add_node.new.p _
    c.in-Ok.ensures.given.puts.agent c.in-Ok.ensures.later c.release-in-Err-add_node.ensures.later (Spent why) (c.in-Err-add_node.ensures.worn why refl)

pub let_all_go-requires-clause-hands : goal.let_all_go-requires-clause-hands
let_all_go-requires-clause-hands g c =
    let a = c.args in
    let (start, passed, s, room, fresh, f) = c.requires.absent in
    let e = c.in-Err.ensures in (
      s.slots,
      absent_hand_on (split_ordering _) start (dummy_place a.bucket) passed a.bucket 0 a.left a.first a.right s _ _ f room.one e.none
          (g.met.L.Links.allowed _ _ e.pass),
    )

pub returns-in-Err-clause-rooted : goal.returns-in-Err-clause-rooted
returns-in-Err-clause-rooted g c = λ start passed s room fresh f.
    let a = c.args in
    let e = c.in-Err.ensures in
    no_dummy _ a.bucket start passed a.left a.first a.right s _ _ _ f room fresh e.none (g.met.L.Links.allowed _ _ e.pass)
    (c.let_all_go.ensures.gone s.slots)

pub returns-in-Err-clause-told : goal.returns-in-Err-clause-told
returns-in-Err-clause-told g c =
    let e = c.in-Err.ensures in
    told_refused g.L.Links g.met.L.Links.lacking_stays g.met.L.Links.worn_stays c.args.links.now c.args.p.now c.give.new.p _
    e.later c.let_all_go.ensures.later e.lacking

-- the search, and what linked the dummy or didn't
pub tried : (g : Over) (c : In-Ok g) → let d = c.args.links.now in let n = g.L.Links.numbers d in let a = c.args in
    (s u : Seat SplitNote) (w : HasNewDummy n a.bucket a.left a.first a.right c.in-Ok.dummy s (g.L.Links.seat d c.give.new.p))
    → ((x : NodeToAdd (split_reading n) (SplitHolds n) (SplitMay n) 0 Bucket a.left a.first a.right c.in-Ok.dummy (g.L.Links.seat d c.give.new.p))
    → IsFew (4 + 3 * x.given) (made_from x.begun u)) → u.agent ≡ s.agent → MadeFewBySearch 4 1 3 s u
tried g c = λ s u w few same.
    let a = c.args in
    few_dummy s u same (few (dummy_to_add _ a.bucket a.left a.first a.right c.in-Ok.dummy s _ w c.requires.bucket.0 c.requires.bucket.1))

pub returns-in-Ok-true-clause-tries : goal.returns-in-Ok-true-clause-tries
returns-in-Ok-true-clause-tries g c = λ start passed s room fresh f.
    let u = g.L.Links.seat c.args.links.now c.add_node.new.p in
    let v = g.L.Links.seat c.args.links.now c.anchor_and_go.new.p in
    let d = c.args.links.now in
    let w = new_dummy g (goal.at.returns-in-Ok-true-clause-tries g c).In-Ok start passed s room f in
    let added = linked g (goal.at.returns-in-Ok-true-clause-tries g c).In-Ok-true s w in
    let e = c.in-Ok-true.ensures in
    let h = c.anchor_and_go.ensures in
    few_ended 4 3 1 s u v (puts_grow s u _ added.made.puts)
    (h.anchored.gone.puts.agent ∙ h.anchored.anchors.tried.puts.agent)
    (seen_on g.L.Links g.met.L.Links.steps_add g.met.L.Links.seen_is d c.add_node.new.p c.anchor_and_go.new.p e.pass h.pass h.later) h.tries
    (tried g (goal.at.returns-in-Ok-true-clause-tries g c).In-Ok s u w e.few added.made.puts.agent)

pub returns-in-Ok-false-clause-tries : goal.returns-in-Ok-false-clause-tries
returns-in-Ok-false-clause-tries g c = λ start passed s room fresh f.
    let u = g.L.Links.seat c.args.links.now c.add_node.new.p in
    let v = g.L.Links.seat c.args.links.now c.release.new.p in
    let a = c.args in
    let w = new_dummy g (goal.at.returns-in-Ok-false-clause-tries g c).In-Ok start passed s room f in
    let missed = dummy_added _ a.bucket a.left a.first a.right c.in-Ok.dummy s _ _ w c.requires.bucket.0 c.requires.bucket.1 (Ok c.in-Ok-false.field-0) (Ok false)
    (ap (λ (b : Bool). Ok b) c.in-Ok-false.field-0-test) c.in-Ok-false.ensures.added in
    few_wider 4 1 1 3 4 s v (omega arith) (omega arith) (few_still 4 1 3 s u v (puts_grow s u _ missed.over.made.puts) c.release.ensures.released.puts
    (tried g (goal.at.returns-in-Ok-false-clause-tries g c).In-Ok s u w c.in-Ok-false.ensures.few missed.over.made.puts.agent))

pub returns-in-Err-add_node-clause-tries : goal.returns-in-Err-add_node-clause-tries
returns-in-Err-add_node-clause-tries g c = λ start passed s room fresh f.
    let u = g.L.Links.seat c.args.links.now c.add_node.new.p in
    let v = g.L.Links.seat c.args.links.now c.release-in-Err-add_node.new.p in
    let a = c.args in
    let w = new_dummy g (goal.at.returns-in-Err-add_node-clause-tries g c).In-Ok start passed s room f in
    let refused = dummy_added _ a.bucket a.left a.first a.right c.in-Ok.dummy s _ _ w c.requires.bucket.0 c.requires.bucket.1 (Err c.in-Err-add_node.spent) (Err c.in-Err-add_node.spent) refl
    c.in-Err-add_node.ensures.added in
    few_wider 4 1 1 3 4 s v (omega arith) (omega arith) (few_still 4 1 3 s u v (puts_grow s u _ refused.made.puts)
    c.release-in-Err-add_node.ensures.released.puts
    (tried g (goal.at.returns-in-Err-add_node-clause-tries g c).In-Ok s u w c.in-Err-add_node.ensures.few refused.made.puts.agent))

pub returns-in-Err-clause-tries : goal.returns-in-Err-clause-tries
returns-in-Err-clause-tries g c = λ start passed s room fresh f.
    let t = g.L.Links.seat c.args.links.now c.args.p.now in
    let u = g.L.Links.seat c.args.links.now c.give.new.p in
    let v = g.L.Links.seat c.args.links.now c.let_all_go.new.p in
    let a = c.args in
    let q = f.behind.quiet.puts in
    let none = c.in-Err.ensures.none.puts in
    let few = few_search 4 s s t refl refl q.agent (few_made 2 4 s t f.own q
    (absent_few (split_reading _) start (dummy_place a.bucket) passed a.left a.first a.right s t f) (omega arith)) in
    let hand = absent_hand_on (split_ordering _) start (dummy_place a.bucket) passed a.bucket 0 a.left a.first a.right s _ _ f room.one c.in-Err.ensures.none
    (g.met.L.Links.allowed _ _ c.in-Err.ensures.pass) in
    few_wider 4 1 1 0 4 s v (omega arith) (omega arith) (few_still 4 1 0 s u v (goes_on _ _ _ (puts_grow s t _ q) (puts_grow t u _ none))
    (c.let_all_go.ensures.gone s.slots hand).puts (few_still 4 1 0 s t u (puts_grow s t _ q) none few))

pub add_node-requires-clause-pass : goal.add_node-requires-clause-pass
add_node-requires-clause-pass g c = c.in-Ok.ensures.pass

pub anchor_and_go-requires-clause-pass : goal.anchor_and_go-requires-clause-pass
anchor_and_go-requires-clause-pass g c = c.in-Ok-true.ensures.pass

pub release-requires-clause-pass : goal.release-requires-clause-pass
release-requires-clause-pass g c = c.in-Ok-false.ensures.pass

pub release-requires-in-Err-add_node-clause-pass : goal.release-requires-in-Err-add_node-clause-pass
release-requires-in-Err-add_node-clause-pass g c = c.in-Err-add_node.ensures.pass

pub let_all_go-requires-clause-pass : goal.let_all_go-requires-clause-pass
let_all_go-requires-clause-pass g c = c.in-Err.ensures.pass

pub returns-in-Ok-true-clause-pass : goal.returns-in-Ok-true-clause-pass
returns-in-Ok-true-clause-pass g c = c.anchor_and_go.ensures.pass

pub returns-in-Ok-true-clause-later : goal.returns-in-Ok-true-clause-later
returns-in-Ok-true-clause-later g c = goes_on _ _ _ c.in-Ok.ensures.later (goes_on _ _ _ c.in-Ok-true.ensures.later c.anchor_and_go.ensures.later)

pub returns-in-Ok-false-clause-pass : goal.returns-in-Ok-false-clause-pass
returns-in-Ok-false-clause-pass g c = c.release.ensures.pass

pub returns-in-Ok-false-clause-later : goal.returns-in-Ok-false-clause-later
returns-in-Ok-false-clause-later g c = goes_on _ _ _ c.in-Ok.ensures.later (goes_on _ _ _ c.in-Ok-false.ensures.later c.release.ensures.later)

pub returns-in-Err-add_node-clause-pass : goal.returns-in-Err-add_node-clause-pass
returns-in-Err-add_node-clause-pass g c = c.release-in-Err-add_node.ensures.pass

pub returns-in-Err-add_node-clause-later : goal.returns-in-Err-add_node-clause-later
returns-in-Err-add_node-clause-later g c =
    goes_on _ _ _ c.in-Ok.ensures.later (goes_on _ _ _ c.in-Err-add_node.ensures.later c.release-in-Err-add_node.ensures.later)

pub returns-in-Err-clause-pass : goal.returns-in-Err-clause-pass
returns-in-Err-clause-pass g c = c.let_all_go.ensures.pass

pub returns-in-Err-clause-later : goal.returns-in-Err-clause-later
returns-in-Err-clause-later g c = goes_on _ _ _ c.in-Err.ensures.later c.let_all_go.ensures.later
