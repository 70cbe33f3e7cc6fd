-- The size's root is swung to a new size node.
use mathlib.Core.List.{IsPrefix}
use Rattle.std.proofs.Common.{Bool, Err, List, None, Ok, Option, Result, Some, [], ap, append-nil, arith, false, inl, inr, refl, subst, sym, true, ℕ, ◌*◌, ◌++◌, ◌<◌, ◌∙◌, ◌∷◌, ◌≡◌, ◌≢◌, ◌≤◌}
use Rattle.std.specs.List.{slice_get, slice_set}
use Rattle.std.specs.Prelude.{IfErr, IfOk}
use Rattle.orc_fault.specs.declared.Spent.{Spent as SpentRow}
use Rattle.orc_heap.proofs.ByAnswer.{Swings-fresh, Swings-missed, Swings-moved, unless_fresh, unless_same}
use Rattle.orc_heap.proofs.Calls.{Puts-trans}
use Rattle.orc_heap.proofs.Hands.{free_in, hands_done, holds_of}
use Rattle.orc_heap.proofs.Moments.{look_found, miss_moved}
use Rattle.orc_heap.proofs.Moved.{gives_in-append}
use Rattle.orc_heap.proofs.OwnEntries.{noted-append}
use Rattle.orc_heap.proofs.Pieces.{missed_fresh, puts_released}
use Rattle.orc_heap.proofs.SingleActs.{some_same}
use Rattle.orc_heap.proofs.Slots.{get-set_other, get-set_same, set-back}
use Rattle.orc_heap.specs.Allowed.{AllAllowed, AllowedLater}
use Rattle.orc_heap.specs.Calls.{Gives, Looks, Misses, ReadsValue, Swings, event_of, move_of, unless_node}
use Rattle.orc_heap.specs.Hands.{Hands, HoldsId, hand}
use Rattle.orc_heap.specs.Heap.{Heap, HeapNumbers, Node, link_to}
use Rattle.orc_heap.specs.Moves.{ShowsOrMoved, moves_in}
use Rattle.orc_heap.specs.OwnEvents.{Only, Puts}
use Rattle.orc_heap.specs.Seats.{IsIdle, Seat, heap_of, link_in, place_in}
use Rattle.orc_heap.specs.Slots.{Hold, IsFree, SlotNode, Slots, id_in, id_of}
use Rattle.orc_heap.specs.declared.events.Act.TheVariants.{Fill, Give, Look, Miss, Move}
use Rattle.orc_heap.specs.declared.events.Event.{Event}
use Rattle.orc_heap.specs.declared.events.Link.{Link}
use Rattle.orc_heap.specs.declared.events.Place.{Place}
use Rattle.orc_heap.specs.declared.events.Place.TheVariants.{Root}
use Rattle.orc_heap.specs.declared.holds.At.{At}
use Rattle.orc_heap.specs.declared.holds.Looked.TheVariants.{Stable}
use Rattle.orc_heap.specs.declared.holds.Seen.{Seen}
use Rattle.orc_heap.specs.declared.holds.Want.{Want}
use Rattle.orc_history.specs.declared.set.ListRefused.TheVariants.{Again}
use Rattle.orc_ordered_search.specs.declared.turn.InsertTurn.{InsertTurn}
use Rattle.orc_ordered_search.specs.declared.turn.InsertTurn.TheVariants.{Answered, NoNode as TurnNoNode, Over, Spent as TurnSpent}
use Rattle.orc_ordered_search.specs.Searches.{FindsMoved, HoldsIfAny, LetsGo, Quiet, target_at}
use Rattle.orc_ordered_search.proofs.Held.{goes_hands}
use Rattle.orc_ordered_search.proofs.Inserting.{idle_room}
use Rattle.orc_ordered_search.proofs.Making.{made_after, made_on}
use Rattle.orc_ordered_search.proofs.Quiets.{silent_one, silent_three}
use Rattle.orc_ordered_chains.specs.Chains.{link_over}
use Rattle.orc_split_rule.proofs.Coming.{grow_allowed}
use Rattle.orc_split_rule.proofs.Later.{may_fits}
use Rattle.orc_split_rule.specs.SplitDiscipline.{SplitHolds, SplitMay, greatest, size_at, size_by, size_of}
use Rattle.orc_split_rule.specs.Watches.{StandsFor, node_to_link}
use Rattle.orc_split_rule.specs.declared.split.SplitNote.{SplitNote}
use Rattle.orc_split_rule.specs.declared.split.SplitNote.TheVariants.{Grow}
use Rattle.orc_split_set.specs.Crowds.{SeesOwn}
use Rattle.orc_split_set.specs.Growths.{Doubles, DoublesAndGoes, GrowTells, GrowsAfter, HasGrow, HasSizeNode, HoldsSize, IsCrowded, ShowsSize, SwingsSize, grown_by}
use Rattle.orc_split_set.specs.SplitSearches.{split_reading}
use Rattle.orc_split_set.specs.declared.bucket.Rooted.{Rooted}
use Rattle.orc_split_set.specs.declared.bucket.Rooted.TheVariants.{Done, Moved, NoNode, Spent}
use Rattle.orc_split_set.proofs.Crowding.{own_later, own_not_moved, own_part, own_seen, own_shows, own_size, own_sooner, own_unmoved, puts_grow}
use Rattle.orc_heap.proofs.Pieces.{goes_on}
use Rattle.orc_ordered_search.specs.Inserts.{answer_by}
use Rattle.orc_split_set.proofs.Ordered.{split_ordering}
use Rattle.orc_split_set.proofs.Preparing.{nothing}
use Rattle.orc_split_set.proofs.Sizes.{SizeHeld, values_puts}

pub size_allowed : (n : HeapNumbers) (s : Seat SplitNote) (most size id : ℕ) (new : Hold) (from : Link) (to : Option ℕ) → most ≡ greatest n → 1 ≤ most
    → 2 * size ≤ most → SplitHolds n s.seen → HasSizeNode n (2 * size) new id s → from ≡ record { to = to; mark = false } → StandsFor (heap_of n s) to size
    → AllowedLater (SplitMay n) n s.agent s.seen (Root most) from (event_of s (Move (Root most) from (link_to (id_in s.slots new))) (Some Grow))
size_allowed n s most size id new from to most_is some fits holds k from_is stands =
    let there = grow_allowed n s.agent size id (record { to = to; mark = false }) s.seen holds (subst (λ (m : ℕ). 1 ≤ m) most_is some) refl stands
    (subst (λ (m : ℕ). 2 * size ≤ m) most_is fits) k.node in
    rw (most_is, from_is, (holds_of s.slots new id k.held).1) there

module _ (n : HeapNumbers) (size : ℕ) (new : Hold) (id : ℕ) (s t u : Seat SplitNote) (k : HasSizeNode n size new id s) (g : LetsGo (Some new) t u) where
  gone_unlinked : t.slots ≡ s.slots → t.fresh ≡ s.fresh → u.fresh ≡ None
  gone_unlinked slots fresh =
      let id_is : id_in t.slots new ≡ id = ap (λ (z : Slots). id_in z new) slots ∙ (holds_of s.slots new id k.held).1 in
      g.fresh ∙ (ap (λ (i : ℕ). unless_node t.fresh (Some i)) id_is ∙ (ap (λ (f : Option ℕ). unless_node f (Some id)) (fresh ∙ k.fresh) ∙ unless_same id))

  -- it was missed, though the size's root showed this: another agent has an event there
  missed_size : (at : At) (from to : Want) (old : Option ℕ) → place_in s.slots at ≡ Root (greatest n) → link_in s.slots from ≡ link_over old
      → AllAllowed (SplitMay n) [] t.seen → Swings at from to (Some Grow) s false t → ShowsSize n old s → SeesOwn s u → ⊥
  missed_size at from to old place_is from_is all w shows sees =
      let m = subst (λ (l : Link). Misses (Root (greatest n)) l s t) from_is
      (subst (λ (p : Place). Misses p (link_in s.slots from) s t) place_is (Swings-missed w refl)) in
      let e : Event SplitNote = event_of s (Miss (Root (greatest n)) (link_over old) m.found) None in
      let k = own_sooner s t u (puts_grow s t (e ∷ []) m.puts) (puts_grow t u [] g.puts) sees in
      let moved = miss_moved n (SplitMay n) (may_fits n) s t (Root (greatest n)) (link_over old) m.found [] e [] m.puts refl all tt m.other shows in
      let none : moves_in m.puts.part ≡ 0 = ap (λ z. moves_in z) (own_part s t (e ∷ []) m.puts k).1 in
      omega (arith, moved, none)

  pub swings_size : (at : At) (from to : Want) (old : Option ℕ) (result : Result Bool SpentRow) → link_in s.slots to ≡ link_to id
      → place_in s.slots at ≡ Root (greatest n) → link_in s.slots from ≡ link_over old → AllAllowed (SplitMay n) [] t.seen
      → IfOk result (λ done. Swings at from to (Some Grow) s done t) → IfErr result (λ e. Only [] s t) → SwingsSize n old new s (grown_by result) u
  swings_size at from to old (Err e) to_is place_is from_is all w none = record {
    own = [];
    puts = puts_released s t u [] none.puts g.puts;
    no_entries = refl;
    no_give = refl;
    slots = g.slots ∙ ap (λ (z : Slots). slice_set z new.slot None) none.slots;
    fresh = gone_unlinked none.slots none.fresh;
    grows = λ is. cc;
    missed = λ is. cc;
  }
  swings_size at from to old (Ok true) to_is place_is from_is all w none =
      let fresh : t.fresh ≡ None = Swings-fresh w refl ∙ (ap (λ (l : Link). unless_node s.fresh l.to) to_is
      ∙ (ap (λ (f : Option ℕ). unless_node f (Some id)) k.fresh ∙ unless_same id)) in
      record {
        own = move_of s at from to (Some Grow) ∷ [];
        puts = puts_released s t u (move_of s at from to (Some Grow) ∷ []) (Swings-moved w refl) g.puts;
        no_entries = refl;
        no_give = refl;
        slots = g.slots ∙ ap (λ (z : Slots). slice_set z new.slot None) w.slots;
        fresh = g.fresh ∙ unless_fresh t.fresh _ fresh;
        grows = λ is. inl refl;
        missed = λ is. cc;
      }
  swings_size at from to old (Ok false) to_is place_is from_is all w none =
      let m = Swings-missed w refl in
      let act = Miss (place_in s.slots at) (link_in s.slots from) m.found in
      record {
        own = event_of s act None ∷ [];
        puts = puts_released s t u (event_of s act None ∷ []) m.puts g.puts;
        no_entries = silent_one (split_ordering n) s.agent act;
        no_give = refl;
        slots = g.slots ∙ ap (λ (z : Slots). slice_set z new.slot None) w.slots;
        fresh = gone_unlinked w.slots (missed_fresh w refl);
        grows = λ is. cc;
        missed = λ is. missed_size at from to old place_is from_is all w;
      }

-- a Grow in a list of events

pub grow_left : (es fs : List (Event SplitNote)) → HasGrow es → HasGrow (es ++ fs)
grow_left [] fs bad = absurd bad
grow_left (e ∷ es) fs (inl here) = inl here
grow_left (e ∷ es) fs (inr later) = inr (grow_left es fs later)

pub grow_right : (es fs : List (Event SplitNote)) → HasGrow fs → HasGrow (es ++ fs)
grow_right [] fs has = has
grow_right (e ∷ es) fs has = inr (grow_right es fs has)

-- what a try tells goes on, with what was seen before it and after it
tells_after : (n : HeapNumbers) (If : Type 0) (s t u v : Seat SplitNote) (own ys : List (Event SplitNote)) (result : Rooted) → Puts s own t
    → IsPrefix t.seen u.seen → IsPrefix u.seen v.seen → (SeesOwn s t → If × (size_of n t.seen ≡ size_of n s.seen)) → (If → GrowTells n t ys result u)
    → GrowTells n s (own ++ ys) result v
tells_after n If s t u v own ys Done p one two go tells = λ sees.
    let first = puts_grow s t own p in
    let k = own_sooner s u v (goes_on s.seen t.seen u.seen first one) two sees in
    let (holds, same) = go (own_sooner s t u first one k) in
    elim (tells holds (own_later s t u first one p.agent k)) [ inl grows ↦ inl (grow_right own ys grows) | inr many ↦ inr (omega (arith, many, same)) ]
tells_after n If s t u v own ys Moved p one two go tells = λ sees.
    let first = puts_grow s t own p in
    let k = own_sooner s u v (goes_on s.seen t.seen u.seen first one) two sees in
    tells (go (own_sooner s t u first one k)).0 (own_later s t u first one p.agent k)
tells_after n If s t u v own ys NoNode p one two go tells = tt
tells_after n If s t u v own ys (Spent why) p one two go tells = tt

-- a node was given for it
module _ (n : HeapNumbers) (size : ℕ) (s u : Seat SplitNote) (new : Hold) (g : Gives n 1 size 2 s new u) (one : IsFree s.slots 1) where
  abbrev given : Option SlotNode
  given = Some (record { row = new.row; id = g.id })

  pub size_node : HasSizeNode n size new g.id u
  size_node =
      let held : HoldsId (slice_set s.slots 1 given) new g.id = subst (λ (i : ℕ). slice_get (slice_set s.slots 1 given) i ≡ Some given) (sym g.slot_is)
      (get-set_same s.slots 1 None given one.empty) in
      record {
        held = subst (λ (z : Slots). HoldsId z new g.id) (sym g.slots) held;
        fresh = g.fresh;
        node = subst (λ (a : ℕ). slice_get (heap_of n u).nodes g.id ≡ Some (node_to_link a size 2 None)) (sym g.puts.agent) g.node;
      }

  swing_tells : (v : Seat SplitNote) (result : Rooted) (old : Option ℕ) (own ys : List (Event SplitNote)) → (w : SwingsSize n old new u result v) → w.own ≡ ys
      → Puts s own u → moves_in own ≡ 0 → AllAllowed (SplitMay n) [] u.seen → ShowsSize n old s → GrowTells n s (own ++ ys) result v
  swing_tells v Done old own ys w is p none all shows = λ sees. inl (grow_right own ys (subst (λ z. HasGrow z) is (w.grows refl)))
  swing_tells v Moved old own ys w is p none all shows = λ sees.
      let first = puts_grow s u own p in
      let later = puts_grow u v w.own w.puts in
      w.missed refl (own_shows n s u own (greatest n) p all none (own_sooner s u v first later sees) ∙ shows) (own_later s u v first later p.agent sees)
  swing_tells v NoNode old own ys w is p none all shows = tt
  swing_tells v (Spent why) old own ys w is p none all shows = tt

  pub doubles : (v : Seat SplitNote) (result : Rooted) (old : Option ℕ) → AllAllowed (SplitMay n) [] u.seen → SwingsSize n old new u result v
      → Doubles n (ShowsSize n old s) s result v
  doubles v result old all w =
      let ys : List (Event SplitNote) = event_of s Give None ∷ event_of s (Fill g.id 0 size) None ∷ event_of s (Fill g.id 1 2) None ∷ [] in
      let back : slice_set (slice_set s.slots 1 given) new.slot None ≡ s.slots = ap (λ (i : ℕ). slice_set (slice_set s.slots 1 given) i None) g.slot_is
      ∙ set-back s.slots 1 None given one.empty in
      record {
        own = ys ++ w.own;
        tells = swing_tells v result old ys w.own w refl g.puts refl all;
        call = record {
          given = 1;
          at_most = omega arith;
          made = record {
            puts = Puts-trans s u v ys w.own g.puts w.puts;
            entries_are = noted-append (split_reading n).entries_in ys w.own
                ∙ rw (silent_three (split_ordering n) s.agent Give (Fill g.id 0 size) (Fill g.id 1 2)) w.no_entries;
            gives = omega (arith, gives_in-append ys w.own, w.no_give);
          };
          slots = w.slots ∙ (ap (λ (z : Slots). slice_set z new.slot None) g.slots ∙ back);
          fresh = w.fresh;
        };
      }

-- none could be had
pub doubles_none : (n : HeapNumbers) (If : Type 0) (s t : Seat SplitNote) → Only [] s t → s.fresh ≡ None → Doubles n If s NoNode t
doubles_none n If s t o fresh = record {
  own = [];
  tells = λ holds. tt;
  call = record {
    given = 0;
    at_most = omega arith;
    made = record { puts = o.puts; entries_are = refl; gives = refl };
    slots = o.slots;
    fresh = o.fresh ∙ fresh;
  };
}

-- or there would be too many buckets
stands_size : (h : Heap) (to : Option ℕ) (size : ℕ) → StandsFor h to size → size_at h to ≡ size
stands_size h None size is = sym is
stands_size h (Some id) size node = rw (node.there, node.first_is) refl

pub shows_size : (n : HeapNumbers) (s : Seat SplitNote) (to : Option ℕ) (size : ℕ) → ShowsSize n to s → StandsFor (heap_of n s) to size
    → size_of n s.seen ≡ size
shows_size n s to size shows stands = ap (λ (o : Option Link). size_by (heap_of n s) o) shows ∙ stands_size (heap_of n s) to size stands

pub doubles_many : (n : HeapNumbers) (s : Seat SplitNote) (to : Option ℕ) (size : ℕ) → s.fresh ≡ None → StandsFor (heap_of n s) to size
    → greatest n < 2 * size → Doubles n (ShowsSize n to s) s Done s
doubles_many n s to size fresh stands many = record {
  own = [];
  call = nothing n s fresh;
  tells = λ shows sees. inr (omega (arith, many, shows_size n s to size shows stands));
}

-- what is held stays held beside a node in slot 1
pub held_beside : (slots : Slots) (old : Option Hold) (x : Option SlotNode) → HoldsIfAny slots old → slice_get slots 1 ≡ Some None
    → HoldsIfAny (slice_set slots 1 x) old × (target_at (slice_set slots 1 x) old ≡ target_at slots old)
held_beside slots None x held free = (tt, refl)
held_beside slots (Some h) x held free =
    let apart : h.slot ≢ 1 = λ e.
    (let bad : ◌≡◌ {A = Option (Option SlotNode)} (Some (Some (record { row = h.row; id = id_in slots h }))) (Some None) =
    sym held ∙ (ap (λ (i : ℕ). slice_get slots i) e ∙ free) in cc) in
    let same : slice_get (slice_set slots 1 x) h.slot ≡ slice_get slots h.slot = get-set_other slots 1 h.slot x apart in
    let id_is : id_in (slice_set slots 1 x) h ≡ id_in slots h = ap (λ (o : Option (Option SlotNode)). id_of o) same in
    (same ∙ (held ∙ ap (λ (i : ℕ). Some (Some (record { row = h.row; id = i }))) (sym id_is)), ap (λ (i : ℕ). Some i) id_is)

pub stands_puts : (n : HeapNumbers) (s t : Seat SplitNote) (own : List (Event SplitNote)) (to : Option ℕ) (size : ℕ) → Puts s own t
    → AllAllowed (SplitMay n) [] t.seen → StandsFor (heap_of n s) to size → StandsFor (heap_of n t) to size
stands_puts n s t own None size p all stands = stands
stands_puts n s t own (Some id) size p all stands = values_puts n s t own id size 2 p all stands

-- whatever comes of a swing, the pass holds what it held
pub swing_slots : (s t : Seat SplitNote) (at : At) (from to : Want) (noted : Option SplitNote) (result : Result Bool SpentRow)
    → IfOk result (λ done. Swings at from to noted s done t) → IfErr result (λ e. Only [] s t) → t.slots ≡ s.slots
swing_slots s t at from to noted (Ok done) w none = w.slots
swing_slots s t at from to noted (Err e) w none = none.slots

-- the size's root shows what it showed, if the pass saw only own events, and its links have no marks
pub still_shows : (n : HeapNumbers) (s t : Seat SplitNote) (own : List (Event SplitNote)) (link : Link) → (q : Quiet (split_reading n) s own t)
    → SplitHolds n t.seen → ShowsOrMoved n (Root (greatest n)) link s t q.puts.part → SeesOwn s t → ShowsSize n link.to t
still_shows n s t own link q holds (inl shows) k =
    shows ∙ ap (λ (m : Bool). Some (record { to = link.to; mark = m })) (holds.buckets.plain_roots (greatest n) link shows)
still_shows n s t own link q holds (inr moved) k = absurd (own_unmoved s t own q.puts q.no_move moved k)

pub null_shows : (n : HeapNumbers) (s t : Seat SplitNote) (seen : Seen) → Looks (Root (greatest n)) 2 s (Stable seen None) t → SplitHolds n t.seen
    → AllAllowed (SplitMay n) [] t.seen → SeesOwn s t → ShowsSize n None t
null_shows n s t seen looks holds all k =
    let (null, slots, puts) = looks.tells in
    let link : Link = record { to = None; mark = seen.mark } in
    let e : Event SplitNote = event_of s (Look (Root (greatest n)) link) None in
    elim (look_found n (SplitMay n) (may_fits n) s t (Root (greatest n)) link None [] [] puts all tt) [
      | inl shows ↦ shows ∙ ap (λ (m : Bool). Some (record { to = None; mark = m })) (holds.buckets.plain_roots (greatest n) link shows)
      | inr moved ↦ absurd (own_unmoved s t (e ∷ []) puts refl moved k)
    ]

-- after loads
pub doubles_after : (n : HeapNumbers) (If : Type 0) (s t u : Seat SplitNote) (own : List (Event SplitNote)) (result : Rooted) → Quiet (split_reading n) s own t
    → t.slots ≡ s.slots → (SeesOwn s t → If) → Doubles n If t result u → Doubles n (Unit {0}) s result u
doubles_after n If s t u own result q same go k = record {
  own = own ++ k.own;
  tells = λ unit. tells_after n If s t u u own k.own result q.puts (puts_grow t u k.own k.call.made.puts) ([], append-nil u.seen)
      (λ sees. (go sees, own_size n s t own q sees)) k.tells;
  call = record {
    given = k.call.given;
    at_most = k.call.at_most;
    made = made_after (split_reading n) k.call.given s t u own k.own [] q k.call.made.puts k.call.made.entries_are k.call.made.gives;
    slots = k.call.slots ∙ same;
    fresh = k.call.fresh;
  };
}

-- after a read of a value
pub doubles_read : (n : HeapNumbers) (If Then : Type 0) (s t u : Seat SplitNote) (result : Rooted) → Only [] s t → (Then → t.seen ≡ s.seen → If)
    → Doubles n If t result u → Doubles n Then s result u
doubles_read n If Then s t u result o go k = record {
  own = k.own;
  tells = λ holds. tells_after n If s t u u [] k.own result o.puts (puts_grow t u k.own k.call.made.puts) ([], append-nil u.seen)
      (λ sees. let same = own_seen s t [] o.puts sees ∙ append-nil s.seen in (go holds same, ap (λ z. size_of n z) same)) k.tells;
  call = record {
    given = k.call.given;
    at_most = k.call.at_most;
    made = record { puts = Puts-trans s t u [] k.own o.puts k.call.made.puts; entries_are = k.call.made.entries_are; gives = k.call.made.gives };
    slots = k.call.slots ∙ o.slots;
    fresh = k.call.fresh;
  };
}

-- the old size node is let go
pub doubles_held : (n : HeapNumbers) (If : Type 0) (h : Hold) (s t u : Seat SplitNote) (result : Rooted) (k : SizeHeld n h s t) → (SeesOwn s t → If)
    → DoublesAndGoes n If h t result u → Doubles n (Unit {0}) s result u
doubles_held n If h s t u result k go d =
    let m = made_after (split_reading n) d.doubles.call.given s t d.mid k.own d.doubles.own [] k.quiet d.doubles.call.made.puts d.doubles.call.made.entries_are
    d.doubles.call.made.gives in
    let hands = subst (λ (z : Slots). Hands s.slots z (hand (Some h) k.id ∷ [])) (sym d.doubles.call.slots) k.hands in
    record {
      own = k.own ++ d.doubles.own;
      tells = λ unit. tells_after n If s t d.mid u k.own d.doubles.own result k.quiet.puts (puts_grow t d.mid d.doubles.own d.doubles.call.made.puts)
          (puts_grow d.mid u [] d.gone.puts) (λ sees. (go sees, own_size n s t k.own k.quiet sees)) d.doubles.tells;
      call = record {
        given = d.doubles.call.given;
        at_most = d.doubles.call.at_most;
        made = made_on (split_reading n) d.doubles.call.given s d.mid u (k.own ++ d.doubles.own) [] m d.gone.puts;
        slots = hands_done s.slots u.slots (goes_hands s.slots d.mid u (Some h) k.id [] d.gone hands);
        fresh = d.gone.fresh ∙ unless_fresh d.mid.fresh _ d.doubles.call.fresh;
      };
    }

-- a link moved meanwhile
pub doubles_moved : (n : HeapNumbers) (s t : Seat SplitNote) → FindsMoved (split_reading n) s t → s.fresh ≡ None → Doubles n (Unit {0}) s Moved t
doubles_moved n s t f fresh = record {
  own = f.own;
  tells = λ unit sees. own_not_moved n s t f sees;
  call = record {
    given = 0;
    at_most = omega arith;
    made = record { puts = f.quiet.puts; entries_are = f.quiet.no_entries; gives = f.quiet.no_give };
    slots = f.slots;
    fresh = f.quiet.fresh ∙ fresh;
  };
}

-- a size node that is held tells its size
pub holds_size : (n : HeapNumbers) (h : Hold) (value : ℕ) (t u : Seat SplitNote) (k : HoldsSize n h t) → Only [] t u → AllAllowed (SplitMay n) [] u.seen
    → ReadsValue (heap_of n u) (id_in t.slots h) 0 value → (value ≡ k.size) × (id_in u.slots h ≡ k.id)
holds_size n h value t u k o all reads =
    let (held, id_is) = holds_of t.slots h k.id k.held in
    let v = values_puts n t u [] k.id k.size 2 o.puts all k.node in
    let read : ReadsValue (heap_of n u) k.id 0 value = subst (λ (i : ℕ). ReadsValue (heap_of n u) i 0 value) id_is reads in
    let here : read.node ≡ v.node = some_same (sym read.there ∙ v.there) in (
      read.is k.size (ap (λ (x : Node). x.first) here ∙ v.first_is),
      ap (λ (z : Slots). id_in z h) o.slots ∙ id_is,
    )

pub free_beside : (n : HeapNumbers) (h : Hold) (s t : Seat SplitNote) → SizeHeld n h s t → IsIdle s → IsFree t.slots 1
free_beside n h s t k idle =
    free_in s.slots t.slots (hand (Some h) k.id ∷ []) 1 k.hands ((λ e. omega (arith, e, k.slot_is)), tt) (idle_room s idle).one

-- all turns were used: nothing follows them
pub again_uncrowded : (turn : InsertTurn) → answer_by turn ≡ Err Again → IsCrowded turn → ⊥
again_uncrowded Over e k = k
again_uncrowded (Answered false passed) e k = k
again_uncrowded (Answered true passed) e k = cc
again_uncrowded TurnNoNode e k = k
again_uncrowded (TurnSpent why) e k = k

-- no try followed
pub grows_none : (n : HeapNumbers) (turn : InsertTurn) (s : Seat SplitNote) → (IsCrowded turn → ⊥) → s.fresh ≡ None → GrowsAfter n turn s Done s
grows_none n turn s not fresh =
    record { doubles = record { own = []; call = nothing n s fresh; tells = λ crowded. absurd (not crowded) }; none = λ is. refl }
