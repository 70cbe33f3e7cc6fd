-- What comes of a bucket's root, one piece after another.
use Rattle.std.proofs.Common.{Bool, List, None, Option, Some, [], ap, arith, cond, inl, inr, refl, subst, sym, true, ℕ, ◌++◌, ◌+◌, ◌<◌, ◌==◌, ◌∙◌, ◌∷◌, ◌≡◌, ◌≤◌, ◌⊎◌, false}
use Rattle.std.specs.List.{slice_get, slice_set}
use Rattle.orc_fault.specs.declared.Spent.{Spent as SpentRow}
use Rattle.orc_heap.proofs.Calls.{Puts-trans}
use Rattle.orc_heap.proofs.Hands.{holds_of}
use Rattle.orc_heap.proofs.Moved.{gives_in-append}
use Rattle.orc_heap.proofs.OwnEntries.{noted-append}
use Rattle.orc_heap.proofs.Pieces.{new_is}
use Rattle.orc_heap.proofs.Slots.{get-set_same}
use Rattle.orc_heap.specs.Allowed.{AllAllowed}
use Rattle.orc_heap.specs.Calls.{Gives}
use Rattle.orc_heap.specs.Heap.{HeapNumbers}
use Rattle.orc_heap.specs.Moves.{from_own}
use Rattle.orc_heap.specs.OwnEvents.{Only, Puts}
use Rattle.orc_heap.specs.Seats.{Seat, heap_of}
use Rattle.orc_heap.specs.Slots.{Hold, Holds, SlotNode, Slots, id_in}
use Rattle.orc_heap.specs.declared.events.Event.{Event}
use Rattle.orc_heap.specs.declared.events.Place.{Place}
use Rattle.orc_history.specs.declared.set.SetEntry.{SetEntry}
use Rattle.orc_ordered_search.specs.Causes.{others_moves}
use Rattle.orc_ordered_search.specs.Inserts.{AddEnds, AddOver, AddsAt, EndsWith, HasRoomFor, InsertCall, InsertEnds, slots_with}
use Rattle.orc_ordered_search.specs.Reading.{Reading}
use Rattle.orc_ordered_search.specs.Searches.{AllGone, FindsAbsent, FindsMoved, FindsPresent, InHand, LetsGo, Quiet}
use Rattle.orc_ordered_search.specs.Turns.{Made, Tries}
use Rattle.orc_ordered_search.proofs.Adding.{absent_hand_on, given_adds, given_id, lacks_node}
use Rattle.orc_ordered_search.proofs.Held.{in_hand_on, present_hand}
use Rattle.orc_ordered_search.proofs.Inserting.{ends_go}
use Rattle.orc_ordered_search.proofs.Making.{found_over, made_after, made_on}
use Rattle.orc_ordered_search.proofs.Parts.{others_append, others_from}
use Rattle.orc_ordered_search.proofs.Settling.{over_others}
use Rattle.orc_split_rule.specs.SplitDiscipline.{IsDummy, SplitHolds, SplitMay, greatest}
use Rattle.orc_split_rule.specs.SplitOrder.{dummy_place}
use Rattle.orc_split_rule.specs.declared.split.SplitNote.{SplitNote}
use Rattle.orc_split_set.specs.Rootings.{Anchors, AnchorTells, AnchorsAndGoes, HasNewDummy, RootTells, Roots}
use Rattle.orc_split_set.specs.SplitSearches.{split_reading}
use Rattle.orc_split_set.specs.declared.bucket.Rooted.{Rooted}
use Rattle.orc_split_set.specs.declared.bucket.Rooted.TheVariants.{Done, Moved, NoNode, Spent}
use Rattle.orc_split_set.proofs.Anchoring.{set_puts}
use Rattle.orc_split_set.specs.Laws.Placed.{dummy_of_place}
use Rattle.orc_split_set.proofs.Ordered.{split_ordering}

-- what was made in one piece and in the next
pub made_trans : {N : Type 0} (r : Reading N) (one two : ℕ) (s t u : Seat N) (own ys : List (Event N)) (es fs : List SetEntry) → Made r one s own es t
    → Made r two t ys fs u → Made r (one + two) s (own ++ ys) (es ++ fs) u
made_trans r one two s t u own ys es fs m w = record {
  puts = Puts-trans s t u own ys m.puts w.puts;
  entries_are = noted-append r.entries_in own ys ∙ rw (m.entries_are, w.entries_are) refl;
  gives = omega (arith, gives_in-append own ys, m.gives, w.gives);
}

-- other agents' Moves after an own event of the last of two pieces stand after one of the whole
others_later : {N : Type 0} (agent : ℕ) (es fs : List (Event N)) → others_moves agent (from_own agent fs) ≤ others_moves agent (from_own agent (es ++ fs))
others_later agent [] fs = omega arith
others_later {N} agent (e ∷ es) fs = cases (e.agent == agent) (others_later agent es fs) (others_from agent fs)
  where
    cases : (b : Bool) → others_moves agent (from_own agent fs) ≤ others_moves agent (from_own agent (es ++ fs))
        → others_moves agent (from_own agent fs) ≤ others_moves agent fs
        → others_moves agent (from_own agent fs) ≤ others_moves agent (cond b (e ∷ (es ++ fs)) (from_own agent (es ++ fs)))
    cases true k low = omega (arith, low, others_append agent (e ∷ es) fs)
    cases false k low = k

-- and so do those of the first
others_sooner : {N : Type 0} (agent : ℕ) (es fs : List (Event N)) → others_moves agent (from_own agent es) ≤ others_moves agent (from_own agent (es ++ fs))
others_sooner agent [] fs = omega arith
others_sooner {N} agent (e ∷ es) fs = cases (e.agent == agent) (others_sooner agent es fs)
  where
    cases : (b : Bool) → others_moves agent (from_own agent es) ≤ others_moves agent (from_own agent (es ++ fs))
        → others_moves agent (cond b (e ∷ es) (from_own agent es)) ≤ others_moves agent (cond b (e ∷ (es ++ fs)) (from_own agent (es ++ fs)))
    cases true k = omega (arith, others_append agent (e ∷ es) fs)
    cases false k = k

module _ {N : Type 0} (s t u : Seat N) (own ys zs : List (Event N)) (p : Puts s own t) (q : Puts t ys u) (w : Puts s zs u) (k : ℕ) where
  pub moved_sooner : k ≤ others_moves s.agent (from_own s.agent p.part) → k ≤ others_moves s.agent (from_own s.agent w.part)
  moved_sooner moved = rw (new_is s t u own ys zs p q w) (omega (arith, moved, others_sooner s.agent p.part q.part))

  pub moved_later : k ≤ others_moves t.agent (from_own t.agent q.part) → k ≤ others_moves s.agent (from_own s.agent w.part)
  moved_later moved =
      let here : k ≤ others_moves s.agent (from_own s.agent q.part) = subst (λ (a : ℕ). k ≤ others_moves a (from_own a q.part)) p.agent moved in
      rw (new_is s t u own ys zs p q w) (omega (arith, here, others_later s.agent p.part q.part))

-- by what came of the swing
rooted_tells : (n : HeapNumbers) (bucket agent : ℕ) (part : List (Event SplitNote)) (t : Seat SplitNote) (result : Rooted)
    → AnchorTells n bucket result t → RootTells n bucket agent part result t
rooted_tells n bucket agent part t Done set = λ low. set
rooted_tells n bucket agent part t Moved bad = absurd bad
rooted_tells n bucket agent part t NoNode bad = tt
rooted_tells n bucket agent part t (Spent why) told = tt

set_if : (n : HeapNumbers) (s t : Seat SplitNote) (own : List (Event SplitNote)) (bucket : ℕ) → 1 ≤ bucket → bucket < greatest n → SplitHolds n s.seen
    → Puts s own t → AllAllowed (SplitMay n) [] t.seen → (result : Rooted) → AnchorTells n bucket result s → AnchorTells n bucket result t
set_if n s t own bucket low high holds p all Done set = set_puts n s t own bucket low high holds p all set
set_if n s t own bucket low high holds p all Moved bad = bad
set_if n s t own bucket low high holds p all NoNode bad = bad
set_if n s t own bucket low high holds p all (Spent why) told = tt

-- a search found the dummy
module _ (n : HeapNumbers) (bucket : ℕ) (start : Place) (passed : ℕ) (left first : Option Hold) (dummy : Hold) (next : Option Hold) (s t : Seat SplitNote)
    (f : FindsPresent (split_reading n) start (dummy_place bucket) passed left first dummy next s t) where
  pub found_dummy : Holds t.slots dummy × IsDummy (heap_of n t) (id_in t.slots dummy) bucket
  found_dummy =
      let (held, is) = holds_of t.slots dummy f.id f.hands.held.1.1.0.0 in
      (held, subst (λ (i : ℕ). IsDummy (heap_of n t) i bucket) (sym is) (dummy_of_place (heap_of n t) f.id bucket f.is_of.has_key))

  pub found_hand : (u : Seat SplitNote) (tried : Tries (split_reading n) t u) → AllAllowed (SplitMay n) [] u.seen
      → InHand (split_reading n) s.slots left first (Some dummy) next u
  found_hand u tried all =
      in_hand_on (split_ordering n) s.slots left first (Some dummy) next t u tried.own tried.puts all tried.slots
      (present_hand (split_ordering n) start (dummy_place bucket) passed left first s t dummy next f)

  pub found_roots : (u v : Seat SplitNote) (result : Rooted) → 1 ≤ bucket → bucket < greatest n → s.fresh ≡ None
      → Anchors n bucket t result u → AllGone s.slots u v → SplitHolds n u.seen → AllAllowed (SplitMay n) [] v.seen → Roots n bucket s result v
  found_roots u v result low high fresh a g holds all =
      let q = f.behind.quiet in
      let own = f.own ++ a.tried.own in
      let m = made_on (split_reading n) 0 s u v own [] (made_after (split_reading n) 0 s t u f.own a.tried.own [] q a.tried.puts a.tried.no_entries a.tried.no_give) g.puts in
      record {
        own = own;
        call = record { given = 0; at_most = omega arith; made = m; slots = g.slots_are; fresh = g.fresh ∙ (a.tried.fresh ∙ (q.fresh ∙ fresh)) };
        tells = rooted_tells n bucket s.agent m.puts.part v result (set_if n u v [] bucket low high holds g.puts all result a.tells);
      }

-- a new dummy is held on
pub dummy_held : (n : HeapNumbers) (bucket : ℕ) (left first right : Option Hold) (dummy : Hold) (s t u : Seat SplitNote)
    (w : HasNewDummy n bucket left first right dummy s t) → u.slots ≡ slots_with s.slots (Some dummy) w.id
    → Holds u.slots dummy × (id_in u.slots dummy ≡ w.id)
dummy_held n bucket left first right dummy s t u w is =
    let x : Option SlotNode = Some (record { row = dummy.row; id = w.id }) in
    let free : slice_get s.slots dummy.slot ≡ Some None = subst (λ (i : ℕ). slice_get s.slots i ≡ Some None) (sym w.slot_is) w.room.one.empty in
    holds_of u.slots dummy w.id (subst (λ (z : Slots). slice_get z dummy.slot ≡ Some x) (sym is) (get-set_same s.slots dummy.slot None x free))

-- a node was given for the dummy
module _ (n : HeapNumbers) (bucket : ℕ) (dummy : Hold) (id : ℕ) (s u w : Seat SplitNote) (room : HasRoomFor s.slots) (first : dummy.slot ≡ 1)
    (slots_are : u.slots ≡ slots_with s.slots (Some dummy) id) where
  -- it is let go
  pub let_go_call : (given : ℕ) (own : List (Event SplitNote)) (v : Seat SplitNote) → given ≤ 1 → Made (split_reading n) given s own [] v → v.slots ≡ u.slots
      → (v.fresh ≡ None) ⊎ (v.fresh ≡ Some id) → LetsGo (Some dummy) v w → InsertCall (split_reading n) s own [] w
  let_go_call given own v few m same fresh g =
      let e : EndsWith (Some dummy) s.slots v = record { id = id; slots_are = same ∙ slots_are; slot_is = first; fresh = fresh } in
      let gone = ends_go (Some dummy) s v w e room g in
      record { given = given; at_most = few; made = made_on (split_reading n) given s v w own [] m g.puts; slots = gone.slots; fresh = gone.fresh }

  -- it was linked, and the root names it
  pub added_roots : AddEnds (split_reading n) 1 (slots_with s.slots (Some dummy) id) s [] None u → (rooted : Rooted) → 1 ≤ bucket → bucket < greatest n
      → (k : AnchorsAndGoes n bucket dummy u rooted w) → SplitHolds n k.mid.seen → AllAllowed (SplitMay n) [] w.seen → Roots n bucket s rooted w
  added_roots a rooted low high k holds all =
      let tried = k.anchors.tried in
      let m = made_trans (split_reading n) 1 0 s u k.mid a.own tried.own [] [] a.made
      (record { puts = tried.puts; entries_are = tried.no_entries; gives = tried.no_give }) in
      let call = let_go_call 1 (a.own ++ tried.own) k.mid (omega arith) m tried.slots (inl (tried.fresh ∙ a.fresh_is)) k.gone in
      record {
        own = a.own ++ tried.own;
        call = call;
        tells = rooted_tells n bucket s.agent call.made.puts.part w rooted (set_if n k.mid w [] bucket low high holds k.gone.puts all rooted k.anchors.tells);
      }

  -- the place showed another link
  pub missed_roots : AddOver (split_reading n) (bucket) 0 dummy id 1 (slots_with s.slots (Some dummy) id) s u → LetsGo (Some dummy) u w
      → Roots n bucket s Moved w
  missed_roots a g =
      let call = let_go_call 1 a.own u (omega arith) a.over.made refl (inr a.holds.fresh) g in
      let moved = over_others (split_reading n) 1 1 s u a.own a.over in
      record {
        own = a.own;
        call = call;
        tells = moved_sooner s u w a.own [] a.own a.over.made.puts g.puts call.made.puts 1 moved;
      }

  -- a row was used up
  pub refused_roots : (why : SpentRow) → AddEnds (split_reading n) 1 (slots_with s.slots (Some dummy) id) s [] (Some id) u → LetsGo (Some dummy) u w
      → Roots n bucket s (Spent why) w
  refused_roots why a g = record { own = a.own; call = let_go_call 1 a.own u (omega arith) a.made refl (inr a.fresh_is) g; tells = tt }

-- a new node has room where a search ended
pub has_dummy : (n : HeapNumbers) (bucket : ℕ) (start : Place) (passed : ℕ) (left first right : Option Hold) (s t u : Seat SplitNote)
    → FindsAbsent (split_reading n) start (dummy_place bucket) passed left first right s t → HasRoomFor s.slots → (dummy : Hold) (value : ℕ) → value ≡ bucket
    → Gives n 1 value 0 t dummy u → AllAllowed (SplitMay n) [] u.seen → HasNewDummy n bucket left first right dummy s u
has_dummy n bucket start passed left first right s t u f room dummy value is given all =
    let g = subst (λ (v : ℕ). Gives n 1 v 0 t dummy u) is given in
    let x : Option SlotNode = Some (record { row = dummy.row; id = g.id }) in
    let base : slice_set s.slots 1 x ≡ slots_with s.slots (Some dummy) g.id = ap (λ (i : ℕ). slice_set s.slots i x) (sym g.slot_is) in
    let w = subst (λ (z : Slots). (a : AddsAt (split_reading n) start (dummy_place bucket) bucket 0 left first right dummy 1 z s u) × (a.id ≡ g.id)) base (
      given_adds (split_ordering n) start (dummy_place bucket) passed bucket 0 left first right s t u f room.one dummy g all,
      given_id (split_ordering n) start (dummy_place bucket) passed bucket 0 left first right s t u f room.one dummy g all,
    ) in
    record { start = start; id = g.id; room = room; slot_is = g.slot_is; adds = w.0; id_is = w.1 }

-- no node could be had
lacking_roots : (n : HeapNumbers) (bucket : ℕ) (s t : Seat SplitNote) (own : List (Event SplitNote)) → InsertEnds (split_reading n) s.slots None None s own [] t
    → Roots n bucket s NoNode t
lacking_roots n bucket s t own e = record {
  own = own;
  call = record {
    given = e.given;
    at_most = omega (arith, e.count);
    made = e.made;
    slots = e.ends.slots_are;
    fresh = elim e.ends.fresh [ inl a ↦ a | inr b ↦ b ];
  };
  tells = tt;
}

-- and all nodes are let go
pub no_dummy : (n : HeapNumbers) (bucket : ℕ) (start : Place) (passed : ℕ) (left first right : Option Hold) (s t u v : Seat SplitNote)
    → FindsAbsent (split_reading n) start (dummy_place bucket) passed left first right s t → HasRoomFor s.slots → s.fresh ≡ None → Only [] t u
    → AllAllowed (SplitMay n) [] u.seen → (InHand (split_reading n) s.slots left first right None u → AllGone s.slots u v) → Roots n bucket s NoNode v
no_dummy n bucket start passed left first right s t u v f room fresh none all gone =
    let x = split_ordering n in
    let hand = absent_hand_on x start (dummy_place bucket) passed bucket 0 left first right s t u f room.one none all in
    let (own, ends) = lacks_node x start (dummy_place bucket) passed bucket 0 left first right s t u f room.one v none (gone hand) fresh in
    lacking_roots n bucket s v own ends

-- a link moved meanwhile
pub moved_roots : (n : HeapNumbers) (bucket : ℕ) (s t : Seat SplitNote) → FindsMoved (split_reading n) s t → s.fresh ≡ None → Roots n bucket s Moved t
moved_roots n bucket s t f fresh =
    let w = found_over (split_reading n) s t f in
    record {
      own = w.own;
      call = record { given = 0; at_most = omega arith; made = w.over.made; slots = w.slots; fresh = w.fresh ∙ fresh };
      tells = over_others (split_reading n) 0 1 s t w.own w.over;
    }

-- loads before it
pub roots_after : (n : HeapNumbers) (bucket : ℕ) (s t u : Seat SplitNote) (own : List (Event SplitNote)) → Quiet (split_reading n) s own t → t.slots ≡ s.slots
    → (result : Rooted) → Roots n bucket t result u → Roots n bucket s result u
roots_after n bucket s t u own q same result k =
    let m = made_after (split_reading n) k.call.given s t u own k.own [] q k.call.made.puts k.call.made.entries_are k.call.made.gives in
    record {
      own = own ++ k.own;
      call = record { given = k.call.given; at_most = k.call.at_most; made = m; slots = k.call.slots ∙ same; fresh = k.call.fresh };
      tells = by result k.call.made.puts k.tells m.puts;
    }
  where
    by : (result : Rooted) (p : Puts t k.own u) → RootTells n bucket t.agent p.part result u → (w : Puts s (own ++ k.own) u)
        → RootTells n bucket s.agent w.part result u
    by Done p told w = told
    by Moved p told w = moved_later s t u own k.own (own ++ k.own) q.puts p w 1 told
    by NoNode p told w = tt
    by (Spent why) p told w = tt

pub roots_own : (n : HeapNumbers) (bucket : ℕ) (s t u : Seat SplitNote) (own : List (Event SplitNote)) (q : Quiet (split_reading n) s own t) (same : t.slots ≡ s.slots)
    (result : Rooted) (k : Roots n bucket t result u) → (roots_after n bucket s t u own q same result k).own ≡ own ++ k.own
unfolding roots_after
roots_own n bucket s t u own q same result k = refl
