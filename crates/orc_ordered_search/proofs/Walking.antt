-- A look at the link of a node on the way.
use Rattle.std.proofs.Common.{Bool, List, None, Option, Some, [], arith, refl, subst, sym, ℕ, ◌++◌, ◌<◌, ◌∷◌, ◌≡◌, ◌≢◌, ◌≤◌}
use Rattle.std.specs.List.{slice_get, slice_set}
use Rattle.orc_heap.proofs.Hands.{free_in, hands_take, hands_with_none, holds_of}
use Rattle.orc_heap.proofs.Moments.{looks_differ}
use Rattle.orc_heap.proofs.Pieces.{own_moves_right}
use Rattle.orc_heap.specs.Allowed.{AllAllowed}
use Rattle.orc_heap.specs.Calls.{Looks, Tells, event_of}
use Rattle.orc_heap.specs.Hands.{Hand, Hands, HoldsId, IsApart, hand}
use Rattle.orc_heap.specs.Moves.{from_own, moves_in}
use Rattle.orc_heap.specs.OwnEvents.{Puts}
use Rattle.orc_heap.specs.Seats.{Seat, heap_of}
use Rattle.orc_heap.specs.Slots.{Hold, IsFree, Slots, id_in}
use Rattle.orc_heap.specs.declared.events.Act.TheVariants.{Look}
use Rattle.orc_heap.specs.declared.events.Event.{Event}
use Rattle.orc_heap.specs.declared.events.Link.{Link}
use Rattle.orc_heap.specs.declared.events.Place.{Place}
use Rattle.orc_heap.specs.declared.events.Place.TheVariants.{Next}
use Rattle.orc_heap.specs.declared.holds.Looked.TheVariants.{Moved, Stable}
use Rattle.orc_heap.specs.declared.holds.Seen.{Seen}
use Rattle.orc_ordered_chains.proofs.Acts.{rank_linked}
use Rattle.orc_ordered_search.specs.Reading.{Ordering}
use Rattle.orc_ordered_search.specs.Searches.{AllGone, Behind, FindsMoved, HasRoom, LooksOn, Stops, Walks, slot_in}
use Rattle.orc_ordered_search.proofs.Held.{room_at, walk_apart}
use Rattle.orc_ordered_search.proofs.Quiets.{behind_on, behind_puts, key_puts, moved_on, silent_one, silent_two}
use Rattle.orc_ordered_search.proofs.Seen.{few_more, visits_few}
use Rattle.orc_ordered_search.proofs.Stepping.{looking_at}
use Rattle.orc_ordered_search.specs.Ways.{IsFew}

pub walk_held : {N : Type 0} (ord : Ordering N) (start : Place) (wanted : ℕ) (left first : Option Hold) (at : Hold) (key : ℕ) (counted : Bool) (passed : ℕ) (s t : Seat N)
    → (w : Walks ord.reading start wanted left first at key counted passed s t) → HoldsId t.slots at w.id
walk_held {N} ord start wanted left first at key counted passed s t w = w.hands.held.1.1.0.0

pub walk_free : {N : Type 0} (ord : Ordering N) (start : Place) (wanted : ℕ) (left first : Option Hold) (at : Hold) (key : ℕ) (counted : Bool) (passed slot : ℕ) (s t : Seat N) → HasRoom s.slots
    → Walks ord.reading start wanted left first at key counted passed s t
    → 2 ≤ slot → slot < 6 → slot ≢ slot_in left → slot ≢ slot_in first → slot ≢ at.slot → IsFree t.slots slot
walk_free {N} ord start wanted left first at key counted passed slot s t room w low high a b c =
    free_in s.slots t.slots (hand left w.left_id ∷ hand first w.first_id ∷ hand (Some at) w.id ∷ []) slot w.hands
    (walk_apart left first at w.left_id w.first_id w.id slot a b c) (room_at s.slots slot room low high)

pub walk_looks : {N : Type 0} (ord : Ordering N) (start : Place) (wanted : ℕ) (left first : Option Hold) (at : Hold) (key : ℕ) (counted : Bool) (passed slot : ℕ) (seen : Seen) (next : Option Hold)
    (s t u : Seat N)
    → HasRoom s.slots
    → Walks ord.reading start wanted left first at key counted passed s t → 2 ≤ slot → slot < 6 → slot ≢ slot_in left → slot ≢ slot_in first → slot ≢ at.slot
    → Looks (Next (id_in t.slots at)) slot t (Stable seen next) u → ord.holds t.seen → AllAllowed ord.may [] u.seen
    → LooksOn ord.reading start wanted left first at key counted passed seen.mark next s u
walk_looks {N} ord start wanted left first at key counted passed slot seen next s t u room w low high a b c looks holds all = by_next next looks.tells
  where
    id_is : id_in t.slots at ≡ w.id
    id_is = (holds_of t.slots at w.id (walk_held ord start wanted left first at key counted passed s t w)).1

    by_next : (next : Option Hold) → Tells (Next (id_in t.slots at)) slot t (Stable seen next) u → LooksOn ord.reading start wanted left first at key counted passed seen.mark next s
        u
    by_next None (null, slots, puts) =
        let p = subst (λ (i : ℕ). Puts t (event_of t (Look (Next i) (record { to = None; mark = seen.mark })) None ∷ []) u) id_is puts in
        let hs : List Hand = hand left w.left_id ∷ hand first w.first_id ∷ hand (Some at) w.id ∷ [] in
        let hands = subst (λ (z : Slots). Hands s.slots z (hand None 0 ∷ hs)) (sym slots) (hands_with_none s.slots t.slots hs 0 w.hands) in
        record {
          own = w.own ++ event_of t (Look (Next w.id) (record { to = None; mark = seen.mark })) None ∷ [];
          ids = record { left_id = w.left_id; first_id = w.first_id; id = w.id; next_id = 0 };
          hands = hands;
          apart = (tt, w.apart);
          looking = looking_at ord start wanted left first at key counted passed seen.mark None s t u [] w p (omega arith) (tt, tt)
              (silent_one ord t.agent (Look (Next w.id) (record { to = None; mark = seen.mark }))) refl refl looks.fresh holds all;
        }
    by_next (Some h) (next_id, one, some, marked, null, at_slot, slots, puts) =
        let link : Link = record { to = Some next_id; mark = seen.mark } in
        let p = subst (λ (i : ℕ). Puts t (event_of t (Look (Next i) one) None ∷ event_of t (Look (Next i) link) None ∷ []) u) id_is puts in
        let hs : List Hand = hand left w.left_id ∷ hand first w.first_id ∷ hand (Some at) w.id ∷ [] in
        let apart = walk_apart left first at w.left_id w.first_id w.id slot a b c in
        let free = room_at s.slots slot room low high in
        let hands = hands_take s.slots t.slots u.slots hs h next_id w.hands (subst (λ (i : ℕ). IsApart i hs) (sym at_slot) apart)
        (subst (λ (i : ℕ). slice_get s.slots i ≡ Some None) (sym at_slot) free.empty)
        (subst (λ (i : ℕ). u.slots ≡ slice_set t.slots i (Some (record { row = h.row; id = next_id }))) (sym at_slot) slots) in
        record {
          own = w.own ++ event_of t (Look (Next w.id) one) None ∷ event_of t (Look (Next w.id) link) None ∷ [];
          ids = record { left_id = w.left_id; first_id = w.first_id; id = w.id; next_id = next_id };
          hands = hands;
          apart = (λ e. omega (arith, e, at_slot, low), w.apart);
          looking = looking_at ord start wanted left first at key counted passed seen.mark (Some next_id) s t u (event_of t (Look (Next w.id) one) None ∷ []) w
              p (omega arith) (tt, (tt, tt)) (silent_two ord t.agent t.agent (Look (Next w.id) one) (Look (Next w.id) link)) refl refl looks.fresh holds all;
        }

-- two Looks of the node's link that found it different: a Move stands between them
pub walk_differs : {N : Type 0} (ord : Ordering N) (start : Place) (wanted : ℕ) (left first : Option Hold) (at : Hold) (key : ℕ) (counted : Bool) (passed : ℕ)
    (s t u : Seat N) (one two : Link)
    → (w : Walks ord.reading start wanted left first at key counted passed s t) → one ≢ two
    → Puts t (event_of t (Look (Next (id_in t.slots at)) one) None ∷ event_of t (Look (Next (id_in t.slots at)) two) None ∷ []) u → u.fresh ≡ t.fresh
    → AllAllowed ord.may [] u.seen
    → let own = w.own ++ event_of t (Look (Next w.id) one) None ∷ event_of t (Look (Next w.id) two) None ∷ [] in
    (b : Behind ord.reading start wanted left first w.left_id w.first_id (Some w.id) s own u) × (1 ≤ moves_in (from_own s.agent b.quiet.puts.part)) × IsFew 4 own
walk_differs {N} ord start wanted left first at key counted passed s t u one two w other puts fresh all =
    let id_is = (holds_of t.slots at w.id (walk_held ord start wanted left first at key counted passed s t w)).1 in
    let linked = rank_linked ord.reading.order (heap_of ord.reading.numbers t) w.id key w.is_of.has_key in
    let ys : List (Event N) = event_of t (Look (Next w.id) one) None ∷ event_of t (Look (Next w.id) two) None ∷ [] in
    let p : Puts t ys u = subst (λ (i : ℕ). Puts t (event_of t (Look (Next i) one) None ∷ event_of t (Look (Next i) two) None ∷ []) u) id_is puts in
    let moved = looks_differ ord.reading.numbers ord.may ord.owes.fits t u (Next w.id) one two p all linked other in
    let b = behind_puts ord t u ys p all start wanted left first w.left_id w.first_id (Some w.id) s w.own w.behind (tt, (tt, tt)) fresh
    (silent_two ord t.agent t.agent (Look (Next w.id) one) (Look (Next w.id) two)) refl refl in (
      b,
      omega (arith, moved, own_moves_right s t u w.own ys (w.own ++ ys) w.behind.quiet.puts p b.quiet.puts),
      few_more 2 4 w.own ys (visits_few ord.reading start wanted passed 2 (Some w.id) w.own t w.visits) (omega arith),
    )

pub walk_stops : {N : Type 0} (ord : Ordering N) (start : Place) (wanted : ℕ) (left first : Option Hold) (at : Hold) (key : ℕ) (counted : Bool) (passed slot : ℕ) (s t u : Seat N)
    → Walks ord.reading start wanted left first at key counted passed s t
    → Looks (Next (id_in t.slots at)) slot t Moved u → AllAllowed ord.may [] u.seen → Stops ord.reading start wanted left first at s u
walk_stops {N} ord start wanted left first at key counted passed slot s t u w looks all =
    let (one, two, other, slots, puts, some) = looks.tells in
    let (b, moved, few) = walk_differs ord start wanted left first at key counted passed s t u one two w other puts looks.fresh all in
    record {
      own = w.own ++ event_of t (Look (Next w.id) one) None ∷ event_of t (Look (Next w.id) two) None ∷ [];
      left_id = w.left_id;
      first_id = w.first_id;
      id = w.id;
      key = key;
      hands = subst (λ (z : Slots). Hands s.slots z (hand left w.left_id ∷ hand first w.first_id ∷ hand (Some at) w.id ∷ [])) (sym slots) w.hands;
      behind = b;
      has_key = key_puts ord t u _ puts all w.id key w.is_of.has_key;
      moved = moved;
      few = few;
    }

-- all nodes are let go: the search made few events
pub stops_few : {N : Type 0} (ord : Ordering N) (start : Place) (wanted : ℕ) (left first : Option Hold) (at : Hold) (s t u : Seat N)
    → Stops ord.reading start wanted left first at s t → AllGone s.slots t u → AllAllowed ord.may [] u.seen
    → (f : FindsMoved ord.reading s u) × IsFew 4 f.own
stops_few {N} ord start wanted left first at s t u w g all =
    let b = behind_on ord t u g.puts all start wanted left first w.left_id w.first_id (Some w.id) s w.own w.behind g.fresh in (
      record {
        own = w.own;
        quiet = b.quiet;
        slots = g.slots_are;
        moved = moved_on ord t u g.puts all s w.own w.behind.quiet.puts b.quiet.puts w.moved;
      },
      w.few,
    )
