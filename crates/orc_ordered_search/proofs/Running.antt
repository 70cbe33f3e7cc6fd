-- A search runs over unmarked nodes with lower keys.
use Rattle.std.proofs.Common.{Bool, List, None, Option, Some, [], ap, arith, false, refl, subst, suc, sym, zero, ℕ, ◌++◌, ◌+◌, ◌<◌, ◌∙◌, ◌∷◌, ◌≡◌, ◌≢◌, ◌≤◌}
use Rattle.std.specs.List.{slice_get, slice_set}
use Rattle.orc_heap.proofs.Hands.{hand_held, hands_done, hands_drop, hands_none, hands_swap, hands_take, holds_of}
use Rattle.orc_heap.proofs.Pieces.{linked_not_fresh}
use Rattle.orc_heap.specs.Allowed.{AllAllowed}
use Rattle.orc_heap.specs.Calls.{Looks, MovesOn, Releases, event_of}
use Rattle.orc_heap.specs.Hands.{Hand, Hands, IsApart, hand}
use Rattle.orc_heap.specs.OwnEvents.{Puts}
use Rattle.orc_heap.specs.Seats.{Seat, heap_of}
use Rattle.orc_heap.specs.Slots.{Hold, Holds, SlotNode, Slots, id_in}
use Rattle.orc_heap.specs.declared.events.Act.TheVariants.{Look}
use Rattle.orc_heap.specs.declared.events.Event.{Event}
use Rattle.orc_heap.specs.declared.events.Link.{Link}
use Rattle.orc_heap.specs.declared.events.Place.{Place}
use Rattle.orc_heap.specs.declared.events.Place.TheVariants.{Next}
use Rattle.orc_heap.specs.declared.holds.Looked.{Looked}
use Rattle.orc_heap.specs.declared.holds.Looked.TheVariants.{Moved, Stable}
use Rattle.orc_heap.specs.declared.holds.LookedOn.TheVariants.{Moved as MovedOff, On, Stays}
use Rattle.orc_ordered_chains.proofs.Acts.{rank_linked}
use Rattle.orc_ordered_search.specs.Reading.{Ordering}
use Rattle.orc_ordered_search.specs.Searches.{FindsMoved, HasRoom, LooksBy, Passed, Walks, count_on, slot_in}
use Rattle.orc_ordered_search.specs.Ways.{IsFew}
use Rattle.orc_ordered_search.proofs.Held.{FreshIs, goes_fresh, goes_hands, left_linked, release_goes}
use Rattle.orc_ordered_search.proofs.Quiets.{behind_on, key_puts, moved_on, silent_two}
use Rattle.orc_ordered_search.proofs.Stepping.{looking_at, next_is_of, past_lower, visits_lower}
use Rattle.orc_ordered_search.proofs.Walking.{walk_differs, walk_held, walk_looks, walk_stops}

-- a slot that is set twice
set_twice : {A : Type 0} (xs : List A) (i : ℕ) (x y : A) → slice_set (slice_set xs i x) i y ≡ slice_set xs i y
set_twice [] i x y = refl
set_twice (z ∷ zs) zero x y = refl
set_twice (z ∷ zs) (suc i) x y = ap (λ l. z ∷ l) (set_twice zs i x y)

-- a hold moves on to another node
hands_again : (s t u : Slots) (hs : List Hand) (h now : Hold) (id next : ℕ) → Hands s t (hand (Some h) id ∷ hs) → now.slot ≡ h.slot
    → u ≡ slice_set t h.slot (Some (record { row = now.row; id = next })) → Hands s u (hand (Some now) next ∷ hs)
hands_again s t u hs h now id next k same is =
    let node : Option SlotNode = Some (record { row = now.row; id = next }) in
    let gone : Slots = slice_set t h.slot None in
    hands_take s gone u hs now next (hands_drop s t gone hs h id k refl) (subst (λ (i : ℕ). IsApart i hs) (sym same) k.held.0.2)
    (subst (λ (i : ℕ). slice_get s i ≡ Some None) (sym same) k.held.0.1)
    (subst (λ (i : ℕ). u ≡ slice_set gone i node) (sym same) (is ∙ sym (set_twice t h.slot None node)))

module _ {N : Type 0} (ord : Ordering N) (start : Place) (wanted : ℕ) where
  -- by what the look found
  pub walk_looked : (left first : Option Hold) (at : Hold) (key : ℕ) (counted : Bool) (passed slot : ℕ) (looked : Looked) (s t u : Seat N) → HasRoom s.slots
      → Walks ord.reading start wanted left first at key counted passed s t → 2 ≤ slot → slot < 6 → slot ≢ slot_in left → slot ≢ slot_in first
      → slot ≢ at.slot → Looks (Next (id_in t.slots at)) slot t looked u → ord.holds t.seen → AllAllowed ord.may [] u.seen
      → LooksBy ord.reading start wanted left first at key counted passed s looked u
  walk_looked left first at key counted passed slot (Stable seen next) s t u room w low high a b c looks holds all =
      walk_looks ord start wanted left first at key counted passed slot seen next s t u room w low high a b c looks holds all
  walk_looked left first at key counted passed slot Moved s t u room w low high a b c looks holds all =
      walk_stops ord start wanted left first at key counted passed slot s t u w looks all

  -- what is in hand is held
  pub walk_holds : (left first : Option Hold) (at : Hold) (key : ℕ) (counted : Bool) (passed : ℕ) (s t : Seat N)
      → Walks ord.reading start wanted left first at key counted passed s t → Holds t.slots at
  walk_holds left first at key counted passed s t w =
      (holds_of t.slots at w.id (walk_held ord start wanted left first at key counted passed s t w)).0

  -- and what the search came by isn't fresh
  pub left_not_fresh : (left at : Hold) (key : ℕ) (counted : Bool) (passed : ℕ) (s t : Seat N)
      → Walks ord.reading start wanted (Some left) None at key counted passed s t → FreshIs ord t → Holds t.slots left × (t.fresh ≢ Some (id_in t.slots left))
  left_not_fresh left at key counted passed s t w fresh =
      let (held, is) = holds_of t.slots left w.left_id w.hands.held.0.0 in
      let linked = left_linked ord t start wanted (Some left) w.left_id w.behind.leads.below in
      (held, subst (λ (i : ℕ). t.fresh ≢ Some i) (sym is) (linked_not_fresh ord.reading.numbers t w.left_id fresh linked))

  -- the two nodes in hand are in slots of their own
  pub left_apart : (left at : Hold) (key : ℕ) (counted : Bool) (passed : ℕ) (s t : Seat N)
      → Walks ord.reading start wanted (Some left) None at key counted passed s t → at.slot ≢ left.slot
  left_apart left at key counted passed s t w = λ e. w.hands.held.0.2.1.0 (sym e)

  pub passed_holds : (least passed : ℕ) (left first : Option Hold) (next : Hold) (s t : Seat N)
      → Passed ord.reading start wanted least passed left first (Some next) s t → Holds t.slots next
  passed_holds least passed left first next s t w =
      (holds_of t.slots next w.next_id (hand_held s.slots t.slots (hand left w.left_id ∷ hand first w.first_id ∷ []) next w.next_id w.hands)).0

  -- a look by which the left hold may move on, with no marked node in hand
  module _ (left at : Hold) (key : ℕ) (counted : Bool) (passed slot : ℕ) (s t u : Seat N)
      (w : Walks ord.reading start wanted (Some left) None at key counted passed s t) (all : AllAllowed ord.may [] u.seen)
    where
      -- past the node, which has a lower key: the left hold is of the next one
      pub moves_past : (next : Hold) → MovesOn (Next (id_in t.slots at)) slot t left (On next) u → ord.holds t.seen → key < wanted
          → Passed ord.reading start wanted (key + 1) (count_on counted passed) (Some at) None (Some next) s u
      moves_past next moves holds less =
          let (id, one, some, plain, in_left, slots, puts) = moves.tells in
          let link : Link = record { to = Some id; mark = false } in
          let id_is = (holds_of t.slots at w.id (walk_held ord start wanted (Some left) None at key counted passed s t w)).1 in
          let p = subst (λ (i : ℕ). Puts t (event_of t (Look (Next i) one) None ∷ event_of t (Look (Next i) link) None ∷ []) u) id_is puts in
          let k = looking_at ord start wanted (Some left) None at key counted passed false (Some id) s t u (event_of t (Look (Next w.id) one) None ∷ []) w p
          (omega arith) (tt, (tt, tt)) (silent_two ord t.agent t.agent (Look (Next w.id) one) (Look (Next w.id) link)) refl refl moves.fresh holds all in
          let o = hand (Some at) w.id in
          let own : List (Event N) = w.own ++ event_of t (Look (Next w.id) one) None ∷ event_of t (Look (Next w.id) link) None ∷ [] in
          record {
            own = own;
            ids = record { left_id = w.id; first_id = w.first_id; next_id = id };
            hands = hands_swap s.slots u.slots (hand (Some next) id ∷ []) (hand None w.first_id) o []
                (hands_again s.slots t.slots u.slots (hand None w.first_id ∷ o ∷ []) left next w.left_id id w.hands in_left slots);
            apart = (λ e. w.apart.0 (e ∙ in_left), (w.apart.1.1.0, (tt, tt)));
            behind = past_lower ord start wanted (Some left) None w.left_id w.first_id w.id key counted passed (Some id) at s own u k less;
            next_is = next_is_of ord u wanted w.id key (Some id) k.is_of k.follows;
            visits = visits_lower ord start wanted (Some left) None w.left_id w.first_id w.id key (Some id) s own u counted passed k less;
          }

      -- it stays, and the look found anything else
      pub stays_by : (h : Hold) (looked : Looked) → MovesOn (Next (id_in t.slots at)) slot t left (Stays h looked) u → ord.holds t.seen → HasRoom s.slots
          → 2 ≤ slot → slot < 6 → slot ≢ left.slot → slot ≢ at.slot
          → (h ≡ left) × LooksBy ord.reading start wanted (Some left) None at key counted passed s looked u
      stays_by h looked moves holds room low high not_left not_at = (
        moves.tells.kept,
        walk_looked (Some left) None at key counted passed slot looked s t u room w low high not_left (λ e. omega (arith, e, high)) not_at
            (record { fresh = moves.fresh; tells = moves.tells.tells }) holds all,
      )

      -- the link moved, and the node is all that is in hand
      moved_hands : MovesOn (Next (id_in t.slots at)) slot t left MovedOff u → Hands s.slots u.slots (hand (Some at) w.id ∷ [])
      moved_hands moves =
          let (one, two, other, slots, puts, some, plain) = moves.tells in
          hands_none s.slots u.slots (hand (Some at) w.id ∷ []) w.first_id
          (hands_drop s.slots t.slots u.slots (hand None w.first_id ∷ hand (Some at) w.id ∷ []) left w.left_id w.hands slots)

      pub moved_holds : MovesOn (Next (id_in t.slots at)) slot t left MovedOff u → Holds u.slots at
      moved_holds moves = (holds_of u.slots at w.id (hand_held s.slots u.slots [] at w.id (moved_hands moves))).0

      -- and then it is let go
      pub moves_off : MovesOn (Next (id_in t.slots at)) slot t left MovedOff u → (v : Seat N) → Releases u at v → FreshIs ord u → AllAllowed ord.may [] v.seen
          → (f : FindsMoved ord.reading s v) × IsFew 4 f.own
      moves_off moves v r fresh all_v =
          let (one, two, other, slots, puts, some, plain) = moves.tells in
          let (b, moved, few) = walk_differs ord start wanted (Some left) None at key counted passed s t u one two w other puts moves.fresh all in
          let own : List (Event N) = w.own ++ event_of t (Look (Next w.id) one) None ∷ event_of t (Look (Next w.id) two) None ∷ [] in
          let g = release_goes at u v r in
          let linked = rank_linked ord.reading.order (heap_of ord.reading.numbers u) w.id key (key_puts ord t u _ puts all w.id key w.is_of.has_key) in
          let same = goes_fresh ord s.slots u v (Some at) w.id [] fresh g (moved_hands moves) linked in
          let c = behind_on ord u v g.puts all_v start wanted (Some left) None w.left_id w.first_id (Some w.id) s own b same in (
            record {
              own = own;
              quiet = c.quiet;
              slots = hands_done s.slots v.slots (goes_hands s.slots u v (Some at) w.id [] g (moved_hands moves));
              moved = moved_on ord u v g.puts all_v s own b.quiet.puts c.quiet.puts moved;
            },
            few,
          )
