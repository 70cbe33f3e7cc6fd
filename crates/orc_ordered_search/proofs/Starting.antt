-- A search begins at the link of a root or of a node in hand.
use Rattle.std.proofs.Common.{Bool, List, None, Option, Some, [], ap, arith, false, inl, inr, length, refl, subst, sym, ℕ, ◌++◌, ◌∙◌, ◌∷◌, ◌≡◌, ◌≢◌, ◌<◌, ◌≤◌}
use Rattle.std.specs.List.{slice_get, slice_set}
use Rattle.orc_heap.proofs.Calls.{Puts-stood}
use Rattle.orc_heap.proofs.Hands.{hands_done, hands_swap, hands_take, hands_with_none}
use Rattle.orc_heap.proofs.Pieces.{own_moves_left}
use Rattle.orc_heap.proofs.Moments.{look_found, looks_differ, seen_is, since}
use Rattle.orc_heap.specs.Allowed.{AllAllowed, events_by}
use Rattle.orc_heap.specs.Calls.{Looks, Tells, event_of}
use Rattle.orc_heap.specs.Hands.{Hand, Hands, IsApart, IsApartOf, hand}
use Rattle.orc_heap.specs.Journals.{noted_entries, run_heap}
use Rattle.orc_heap.specs.Moves.{ShowsOrMoved, from_own, gives_in, moves_in}
use Rattle.orc_heap.specs.OwnEvents.{Puts}
use Rattle.orc_heap.specs.Seats.{Seat, heap_of}
use Rattle.orc_heap.specs.Slots.{Hold, Slots}
use Rattle.orc_heap.specs.declared.events.Act.TheVariants.{Look}
use Rattle.orc_heap.specs.declared.events.Event.{Event}
use Rattle.orc_heap.specs.declared.events.Link.{Link}
use Rattle.orc_heap.specs.declared.events.Place.{Place}
use Rattle.orc_heap.specs.declared.events.Place.TheVariants.{Next, Root, Side}
use Rattle.orc_heap.specs.declared.holds.Looked.TheVariants.{Moved, Stable}
use Rattle.orc_heap.specs.declared.holds.Seen.{Seen}
use Rattle.orc_ordered_chains.proofs.Acts.{chain_place_linked, rank_one}
use Rattle.orc_ordered_chains.proofs.Later.{chain_place_later, follows_later, rank_later}
use Rattle.orc_ordered_chains.specs.Chains.{FollowsOn, HasRank, IsChainPlace}
use Rattle.orc_ordered_search.specs.Ways.{AreLoads, IsFew, Sees}
use Rattle.orc_ordered_search.specs.Reading.{Ordering}
use Rattle.orc_ordered_search.specs.Searches.{Begins, FindsMoved, HasRoom, IsLinkedIfAny, LetsGo, NextIsOf, Passed, Quiet, left_place, node_of, slot_in}
use Rattle.orc_ordered_search.specs.Steps.{IsNeverMarked}
use Rattle.orc_ordered_search.proofs.Held.{FreshIs, goes_fresh, goes_hands, room_at}
use Rattle.orc_ordered_search.proofs.Quiets.{below_puts, linked_on, quiet_puts, silent_one, silent_two}
use Rattle.orc_ordered_search.proofs.Seen.{sees_right}
use Rattle.orc_ordered_search.proofs.Stepping.{holds_later}

-- what a Look of the place tells: the link is unmarked, and the next node is of the same root
record TellsStart {N : Type 0} (ord : Ordering N) (wanted : ℕ) (link : Link) (u : Seat N) : Type 0 where
  plain : link.mark ≡ false
  next : (id : ℕ) → link.to ≡ Some id → (rank : ℕ) × HasRank ord.reading.order (heap_of ord.reading.numbers u) id rank × (ord.reading.order.root rank
      ≡ ord.reading.order.root wanted)

start_tells : {N : Type 0} (ord : Ordering N) (t u : Seat N) (start : Place) (wanted : ℕ) (link : Link) (before rest : List (Event N)) → ord.holds t.seen
    → IsNeverMarked ord.reading ord.may t.seen start
    → IsChainPlace ord.reading.order (heap_of ord.reading.numbers t) start → FollowsOn ord.reading.order (heap_of ord.reading.numbers t) start wanted
    → Puts t (before ++ event_of t (Look start link) None ∷ rest) u → AllAllowed ord.may [] u.seen → TellsStart ord wanted link u
start_tells {N} ord t u start wanted link before rest holds plain begins below p all =
    let e : Event N = event_of t (Look start link) None in
    let m = Puts-stood ord.may t u before e rest p all in
    let es : List (Event N) = t.seen ++ m.before in
    let now = holds_later ord t.seen m.before holds m.first in
    let fits = ord.owes.fits es e m.here in
    let on = chain_place_later ord.reading.order ord.reading.numbers ord.may ord.owes.fits ord.owes.marked t.seen m.before start begins m.first in
    let low = follows_later ord.reading.order ord.reading.numbers ord.may ord.owes.fits ord.owes.marked t.seen m.before start wanted below m.first in
    let later = since m in
    let is = sym (p.is ∙ seen_is m) in
    record {
      plain = plain m.before m.first link fits;
      next = λ id to_is.
          let (rank, own, follows) = (ord.owes.chains es now).leads start id on (record { link = link; at = fits; to_is = to_is }) in (
            rank,
            subst (λ z. HasRank ord.reading.order (run_heap ord.reading.numbers z) id rank) is
                (rank_later ord.reading.order ord.reading.numbers ord.may ord.owes.fits ord.owes.marked es (e ∷ m.later) id rank own later),
            same es start low rank follows,
          );
    }
  where
    same : (es : List (Event N)) (start : Place) → FollowsOn ord.reading.order (run_heap ord.reading.numbers es) start wanted → (rank : ℕ)
        → FollowsOn ord.reading.order (run_heap ord.reading.numbers es) start rank → ord.reading.order.root rank ≡ ord.reading.order.root wanted
    same es (Root r) f rank g = g ∙ sym f
    same es (Next d) (low, own, less, one) rank (low2, own2, less2, two) =
        two ∙ (ap (λ (z : ℕ). ord.reading.order.root z) (rank_one ord.reading.order (run_heap ord.reading.numbers es) d low2 low own2 own) ∙ sym one)
    same es (Side d) f rank g = absurd f

module _ {N : Type 0} (ord : Ordering N) (start : Place) (wanted : ℕ) (left : Option Hold) (s t u : Seat N) (b : Begins ord.reading start wanted left s t)
    (holds : ord.holds t.seen) (plain : IsNeverMarked ord.reading ord.may t.seen start) (all : AllAllowed ord.may [] u.seen) where
  -- the pass's events from there on are those from the beginning on
  puts_from : (ys : List (Event N)) → Puts t ys u → Puts s ys u
  puts_from ys p = record {
    part = p.part;
    is = p.is ∙ ap (λ z. z ++ p.part) b.seen;
    agent = p.agent ∙ b.agent;
    own_is = subst (λ (a : ℕ). events_by a p.part ≡ ys) b.agent p.own_is;
  }

  lift : (link : Link) (part : List (Event N)) → ShowsOrMoved ord.reading.numbers start link t u part → ShowsOrMoved ord.reading.numbers start link s u part
  lift link part (inl shows) = inl shows
  lift link part (inr moved) = inr (subst (λ (a : ℕ). 1 ≤ moves_in (from_own a part)) b.agent moved)

  starts : (mark : Bool) (next : Option Hold) (next_id : ℕ) (before : List (Event N))
      → Hands s.slots u.slots (hand next next_id ∷ hand left b.left_id ∷ hand None 0 ∷ []) → IsApartOf 1 next
      → Puts t (before ++ event_of t (Look start (record { to = node_of next next_id; mark = mark })) None ∷ []) u
      → AreLoads (before ++ event_of t (Look start (record { to = node_of next next_id; mark = mark })) None ∷ [])
      → 1 ≤ length (before ++ event_of t (Look start (record { to = node_of next next_id; mark = mark })) None ∷ [])
      → length (before ++ event_of t (Look start (record { to = node_of next next_id; mark = mark })) None ∷ []) ≤ 2
      → noted_entries ord.reading.entries_in (before ++ event_of t (Look start (record { to = node_of next next_id; mark = mark })) None ∷ []) ≡ []
      → gives_in (before ++ event_of t (Look start (record { to = node_of next next_id; mark = mark })) None ∷ []) ≡ 0
      → moves_in (before ++ event_of t (Look start (record { to = node_of next next_id; mark = mark })) None ∷ []) ≡ 0
      → u.fresh ≡ t.fresh → Passed ord.reading start wanted 0 0 left None next s u
  unfolding puts_from
  starts mark next next_id before hands apart p loads some short no_entries no_give no_move fresh =
      let link : Link = record { to = node_of next next_id; mark = mark } in
      let e : Event N = event_of t (Look start link) None in
      let told = start_tells ord t u start wanted link before [] holds plain b.begins b.below p all in
      let q = puts_from (before ++ e ∷ []) p in
      let seen : Sees (before ++ e ∷ []) start link = sees_right before (e ∷ []) start link (inl refl) in
      let shows = look_found ord.reading.numbers ord.may ord.owes.fits t u start link None before [] p all
      (chain_place_linked ord.reading.order (heap_of ord.reading.numbers t) start b.begins) in
      record {
        own = before ++ e ∷ [];
        ids = record { left_id = b.left_id; first_id = 0; next_id = next_id };
        hands = hands;
        apart = (apart, (b.apart.0, (tt, tt)));
        behind = record {
          quiet = record { puts = q; fresh = fresh ∙ b.fresh; loads = loads; some = some; no_entries = no_entries; no_give = no_give; no_move = no_move };
          leads = record {
            from = link;
            plain = told.plain;
            below = subst (λ (z : Place). FollowsOn ord.reading.order (heap_of ord.reading.numbers u) z wanted) b.start_is
                (below_puts ord t u (before ++ e ∷ []) p all start wanted b.below);
            still = subst (λ (z : Place). ShowsOrMoved ord.reading.numbers z link s u p.part) b.start_is (lift link p.part shows);
            over = [];
            run = refl;
            begins = refl;
            sees = subst (λ (z : Place). Sees (before ++ e ∷ []) z link) b.start_is seen;
            sees_run = refl;
          };
        };
        next_is = by_next next told.next;
        visits = record { nodes = []; few = omega (arith, short); way = (link, seen, refl); on = tt; fall = tt; counted = tt };
      }
    where
      by_next : (next : Option Hold)
          → ((id : ℕ) → node_of next next_id ≡ Some id → (rank : ℕ) × HasRank ord.reading.order (heap_of ord.reading.numbers u) id rank × (ord.reading.order.root
          rank ≡ ord.reading.order.root wanted))
          → NextIsOf ord.reading wanted 0 (node_of next next_id) u
      by_next None k = tt
      by_next (Some h) k = (let (rank, own, same) = k next_id refl in (rank, record { has_key = own; same_root = same }, omega arith))

  -- the slots: the start's, if it is a node's, and a free one
  none : Hands s.slots t.slots (hand left b.left_id ∷ hand None 0 ∷ [])
  none = hands_swap s.slots t.slots [] (hand None 0) (hand left b.left_id) [] (hands_with_none s.slots t.slots (hand left b.left_id ∷ []) 0 b.hands)

  apart_of : (slot : ℕ) (o : Option Hold) → slot ≢ slot_in o → IsApartOf slot o
  apart_of slot None ne = tt
  apart_of slot (Some h) ne = ne

  pub start_looks : (slot : ℕ) (seen : Seen) (next : Option Hold) → HasRoom s.slots → 2 ≤ slot → slot < 6 → slot ≢ slot_in left
      → Looks start slot t (Stable seen next) u → Passed ord.reading start wanted 0 0 left None next s u
  start_looks slot seen next room low high ne looks = by_next next looks.tells
    where
      hs : List Hand
      hs = hand left b.left_id ∷ hand None 0 ∷ []

      by_next : (next : Option Hold) → Tells start slot t (Stable seen next) u → Passed ord.reading start wanted 0 0 left None next s u
      by_next None (null, slots, puts) =
          let hands = subst (λ (z : Slots). Hands s.slots z (hand None 0 ∷ hand left b.left_id ∷ hand None 0 ∷ [])) (sym slots)
          (hands_with_none s.slots t.slots (hand left b.left_id ∷ hand None 0 ∷ []) 0 none) in
          starts seen.mark None 0 [] hands tt puts (tt, tt) (omega arith) (omega arith)
          (silent_one ord t.agent (Look start (record { to = None; mark = seen.mark }))) refl refl looks.fresh
      by_next (Some h) (next_id, one, some, marked, null, at_slot, slots, puts) =
          let link : Link = record { to = Some next_id; mark = seen.mark } in
          let hands = hands_take s.slots t.slots u.slots (hand left b.left_id ∷ hand None 0 ∷ []) h next_id none
          (subst (λ (i : ℕ). IsApart i (hand left b.left_id ∷ hand None 0 ∷ [])) (sym at_slot) (apart_of slot left ne, (tt, tt)))
          (subst (λ (i : ℕ). slice_get s.slots i ≡ Some None) (sym at_slot) (room_at s.slots slot room low high).empty)
          (subst (λ (i : ℕ). u.slots ≡ slice_set t.slots i (Some (record { row = h.row; id = next_id }))) (sym at_slot) slots) in
          starts seen.mark (Some h) next_id (event_of t (Look start one) None ∷ []) hands (λ e. omega (arith, e, at_slot, low)) puts (tt, (tt, tt)) (omega arith)
          (omega arith) (silent_two ord t.agent t.agent (Look start one) (Look start link)) refl refl looks.fresh

-- the start's link moved meanwhile, and its node is let go: the search made few events
pub start_few : {N : Type 0} (ord : Ordering N) (start : Place) (wanted slot : ℕ) (left : Option Hold) (s t u v : Seat N)
    → (b : Begins ord.reading start wanted left s t)
    → Looks start slot t Moved u → AllAllowed ord.may [] u.seen → LetsGo left u v → FreshIs ord u → AllAllowed ord.may [] v.seen
    → (f : FindsMoved ord.reading s v) × IsFew 4 f.own
start_few {N} ord start wanted slot left s t u v b looks all g fresh all_v =
    let (one, two, other, slots, puts, some) = looks.tells in
    let es : List (Event N) = event_of t (Look start one) None ∷ event_of t (Look start two) None ∷ [] in
    let linked = chain_place_linked ord.reading.order (heap_of ord.reading.numbers t) start b.begins in
    let moved = looks_differ ord.reading.numbers ord.may ord.owes.fits t u start one two puts all linked other in
    let hands : Hands s.slots u.slots (hand left b.left_id ∷ []) = subst (λ (z : Slots). Hands s.slots z (hand left b.left_id ∷ [])) (sym slots) b.hands in
    let same = goes_fresh ord s.slots u v left b.left_id [] fresh g hands (linked_on ord t u es puts all left b.left_id (start_linked left b.start_is)) in
    let q : Puts s es u = record {
      part = puts.part;
      is = puts.is ∙ ap (λ z. z ++ puts.part) b.seen;
      agent = puts.agent ∙ b.agent;
      own_is = subst (λ (a : ℕ). events_by a puts.part ≡ es) b.agent puts.own_is;
    } in
    let quiet_u : Quiet ord.reading s es u = record {
      puts = q;
      fresh = looks.fresh ∙ b.fresh;
      loads = (tt, (tt, tt));
      some = omega arith;
      no_entries = silent_two ord t.agent t.agent (Look start one) (Look start two);
      no_give = refl;
      no_move = refl;
    } in
    let quiet = quiet_puts ord u v [] g.puts all_v s es quiet_u tt same refl refl refl in (
      record {
        own = es ++ [];
        quiet = quiet;
        slots = hands_done s.slots v.slots (goes_hands s.slots u v left b.left_id [] g hands);
        moved =
            omega (arith, subst (λ (a : ℕ). 1 ≤ moves_in (from_own a puts.part)) b.agent moved, own_moves_left s u v es [] (es ++ []) q g.puts quiet.puts);
      },
      λ ids c. omega arith,
    )
  where
    start_linked : (left : Option Hold) → start ≡ left_place (ord.reading.order.root wanted) left b.left_id → IsLinkedIfAny ord.reading t left b.left_id
    start_linked None is = tt
    start_linked (Some h) is =
        chain_place_linked ord.reading.order (heap_of ord.reading.numbers t) (Next b.left_id)
        (subst (λ (z : Place). IsChainPlace ord.reading.order (heap_of ord.reading.numbers t) z) is b.begins)
