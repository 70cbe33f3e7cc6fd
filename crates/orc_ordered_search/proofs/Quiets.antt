-- Quiet pieces of a call go on.
use Rattle.std.proofs.Common.{Bool, List, None, Option, Some, [], ap, append-nil, arith, inl, inr, length, length-append, refl, subst, sym, true, ℕ, ◌++◌, ◌+◌, ◌∙◌, ◌∷◌, ◌≡◌, ◌≤◌}
use Rattle.orc_heap.proofs.Calls.{Puts-trans, part_allowed}
use Rattle.orc_heap.proofs.Moments.{still_puts}
use Rattle.orc_heap.proofs.Moved.{gives_in-append, moves_in-append}
use Rattle.orc_heap.proofs.OwnEntries.{noted-append}
use Rattle.orc_heap.proofs.Pieces.{new_is, own_moves_left}
use Rattle.orc_heap.proofs.Runs.{run_heap-snoc}
use Rattle.orc_heap.proofs.Stays.{stays}
use Rattle.orc_heap.specs.Allowed.{AllAllowed, HasLink, IsLinkedNode}
use Rattle.orc_heap.specs.Journals.{event_by, noted_entries, run_heap}
use Rattle.orc_heap.specs.Moves.{IsLinkedPlace, ShowsOrMoved, from_own, gives_in, moves_in}
use Rattle.orc_heap.specs.OwnEvents.{Puts}
use Rattle.orc_heap.specs.Seats.{Seat, heap_of}
use Rattle.orc_heap.specs.Slots.{Hold}
use Rattle.orc_heap.specs.declared.events.Act.{Act}
use Rattle.orc_heap.specs.declared.events.Event.{Event}
use Rattle.orc_heap.specs.declared.events.Link.{Link}
use Rattle.orc_heap.specs.declared.events.Place.{Place}
use Rattle.orc_heap.specs.declared.events.Place.TheVariants.{Next, Root, Side}
use Rattle.orc_ordered_chains.specs.Chains.{FollowsOn, HasRank, IsAbove, IsChainPlace, IsRun}
use Rattle.orc_ordered_search.specs.Ways.{AllGoOn, AreLoads, GoesOnFrom, RanksFall}
use Rattle.orc_ordered_chains.proofs.Acts.{KeepsValues, rank_linked, values_after}
use Rattle.orc_ordered_chains.proofs.Later.{above_later, follows_later, linked_later, marked_later, rank_later, run_later}
use Rattle.orc_ordered_search.specs.Reading.{Ordering}
use Rattle.orc_ordered_search.specs.Searches.{Behind, IsLinkedIfAny, IsOf, IsUncounted, LeadsOver, Looking, NextFollows, Quiet, Visits, left_place}
use Rattle.orc_ordered_search.proofs.Seen.{counts_left, loads-append, sees_left, sees_run_left, way_left}

-- events without a note enter nothing
pub silent_one : {N : Type 0} (x : Ordering N) (agent : ℕ) (act : Act) → noted_entries x.reading.entries_in (event_by agent act None ∷ []) ≡ []
silent_one x agent act = rw x.owes.silent refl

pub silent_two : {N : Type 0} (x : Ordering N) (agent by : ℕ) (act other : Act)
    → noted_entries x.reading.entries_in (event_by agent act None ∷ event_by by other None ∷ []) ≡ []
silent_two x agent by act other = rw x.owes.silent refl

pub silent_three : {N : Type 0} (x : Ordering N) (agent : ℕ) (one two three : Act)
    → noted_entries x.reading.entries_in (event_by agent one None ∷ event_by agent two None ∷ event_by agent three None ∷ []) ≡ []
silent_three x agent one two three = rw x.owes.silent refl

-- a node of a kind that isn't counted stays one
pub uncounted_later : {N : Type 0} (x : Ordering N) (seen more : List (Event N)) (id : ℕ) → IsUncounted x.reading (run_heap x.reading.numbers seen) id
    → AllAllowed x.may seen more → IsUncounted x.reading (run_heap x.reading.numbers (seen ++ more)) id
uncounted_later x seen more id u all =
    stays x.may (λ es. IsUncounted x.reading (run_heap x.reading.numbers es) id)
    (λ es e (l, is) may.
    let (m, first, second) = (values_after e.agent e.act (run_heap x.reading.numbers es) (x.owes.fits es e may)).stays id l in
    rw (run_heap-snoc x.reading.numbers es e) (
      m,
      ap (λ (o : Option ℕ). x.reading.counts o m.node.second) first
          ∙ (ap (λ (o : Option ℕ). x.reading.counts l.node.first o) second ∙ is),
    ))
    seen more u all

-- the entries of events, one after another
entries_of-append : {N : Type 0} (x : Ordering N) (es fs : List (Event N))
    → noted_entries x.reading.entries_in (es ++ fs) ≡ noted_entries x.reading.entries_in es ++ noted_entries x.reading.entries_in fs
entries_of-append x es fs = noted-append x.reading.entries_in es fs

-- the left place is a root or in a once linked node
pub left_place_linked : {N : Type 0} (x : Ordering N) (t : Seat N) (place : Place) (key : ℕ) → FollowsOn x.reading.order (heap_of x.reading.numbers t) place key
    → IsLinkedPlace place (heap_of x.reading.numbers t)
left_place_linked {N} x t (Root r) key f = tt
left_place_linked {N} x t (Next id) key (low, own, less, same) = rank_linked x.reading.order (heap_of x.reading.numbers t) id low own
left_place_linked {N} x t (Side id) key f = absurd f

-- and one of a chain
pub left_place_begins : {N : Type 0} (x : Ordering N) (t : Seat N) (key : ℕ) (left : Option Hold) (id : ℕ)
    → FollowsOn x.reading.order (heap_of x.reading.numbers t) (left_place (x.reading.order.root key) left id) key
    → IsChainPlace x.reading.order (heap_of x.reading.numbers t) (left_place (x.reading.order.root key) left id)
left_place_begins x t key None id f = x.reading.order.begun key
left_place_begins x t key (Some h) id (low, own, less, same) = (low, own)

module _ {N : Type 0} (x : Ordering N) (t u : Seat N) (ys : List (Event N)) (q : Puts t ys u) (all : AllAllowed x.may [] u.seen) where
  pub new_allowed : AllAllowed x.may t.seen q.part
  new_allowed = part_allowed x.may t u ys q all

  pub linked_puts : (id : ℕ) → IsLinkedNode (heap_of x.reading.numbers t) id → IsLinkedNode (heap_of x.reading.numbers u) id
  linked_puts id l = subst (λ es. IsLinkedNode (run_heap x.reading.numbers es) id) (sym q.is) (linked_later x.reading.order x.reading.numbers x.may x.owes.fits x.owes.marked t.seen q.part id l new_allowed)

  pub linked_on : (o : Option Hold) (id : ℕ) → IsLinkedIfAny x.reading t o id → IsLinkedIfAny x.reading u o id
  linked_on None id l = tt
  linked_on (Some h) id l = linked_puts id l

  pub key_puts : (id key : ℕ) → HasRank x.reading.order (heap_of x.reading.numbers t) id key → HasRank x.reading.order (heap_of x.reading.numbers u) id key
  key_puts id key k = subst (λ es. HasRank x.reading.order (run_heap x.reading.numbers es) id key) (sym q.is) (rank_later x.reading.order x.reading.numbers x.may x.owes.fits x.owes.marked t.seen q.part id key k new_allowed)

  pub marked_puts : (id : ℕ) (link : Link) → HasLink (heap_of x.reading.numbers t) id link → link.mark ≡ true → HasLink (heap_of x.reading.numbers u) id link
  marked_puts id link l mark = subst (λ es. HasLink (run_heap x.reading.numbers es) id link) (sym q.is) (marked_later x.reading.order x.reading.numbers x.may x.owes.fits x.owes.marked t.seen q.part id link l mark new_allowed)

  pub run_puts : (from : Link) (over : List ℕ) (to : Option ℕ) → IsRun (heap_of x.reading.numbers t) from over to → IsRun (heap_of x.reading.numbers u) from over to
  run_puts from over to r = subst (λ es. IsRun (run_heap x.reading.numbers es) from over to) (sym q.is) (run_later x.reading.order x.reading.numbers x.may x.owes.fits x.owes.marked t.seen q.part from over to r new_allowed)

  pub below_puts : (place : Place) (key : ℕ) → FollowsOn x.reading.order (heap_of x.reading.numbers t) place key → FollowsOn x.reading.order (heap_of x.reading.numbers u) place key
  below_puts place key f = subst (λ es. FollowsOn x.reading.order (run_heap x.reading.numbers es) place key) (sym q.is)
      (follows_later x.reading.order x.reading.numbers x.may x.owes.fits x.owes.marked t.seen q.part place key f new_allowed)

  pub above_puts : (to : Option ℕ) (key : ℕ) → IsAbove x.reading.order (heap_of x.reading.numbers t) to key → IsAbove x.reading.order (heap_of x.reading.numbers u) to key
  above_puts to key a = subst (λ es. IsAbove x.reading.order (run_heap x.reading.numbers es) to key) (sym q.is) (above_later x.reading.order x.reading.numbers x.may x.owes.fits x.owes.marked t.seen q.part to key a new_allowed)

  pub is_of_puts : (wanted id key : ℕ) → IsOf x.reading wanted id key t → IsOf x.reading wanted id key u
  is_of_puts wanted id key k = record { has_key = key_puts id key k.has_key; same_root = k.same_root }

  pub next_puts : (id : ℕ) (next : Option ℕ) → NextFollows x.reading id next t → NextFollows x.reading id next u
  next_puts id None f = tt
  next_puts id (Some next) (key, own, follows) = (key, key_puts next key own, below_puts (Next id) key follows)

  pub uncounted_puts : (id : ℕ) → IsUncounted x.reading (heap_of x.reading.numbers t) id → IsUncounted x.reading (heap_of x.reading.numbers u) id
  uncounted_puts id k =
      subst (λ es. IsUncounted x.reading (run_heap x.reading.numbers es) id) (sym q.is) (uncounted_later x t.seen q.part id k new_allowed)

  pub goes_puts : (wanted : ℕ) (ids : List ℕ) → AllGoOn x.reading.order (heap_of x.reading.numbers t) wanted ids
      → AllGoOn x.reading.order (heap_of x.reading.numbers u) wanted ids
  goes_puts wanted [] on = tt
  goes_puts wanted (id ∷ ids) (one, rest) = (goes one, goes_puts wanted ids rest)
    where
      goes : GoesOnFrom x.reading.order (heap_of x.reading.numbers t) wanted id → GoesOnFrom x.reading.order (heap_of x.reading.numbers u) wanted id
      goes (inl (link, own, mark)) = inl (link, marked_puts id link own mark, mark)
      goes (inr (rank, own, less)) = inr (rank, key_puts id rank own, less)

  falls_puts : (to : Option ℕ) (ids : List ℕ) → RanksFall x.reading.order (heap_of x.reading.numbers t) to ids
      → RanksFall x.reading.order (heap_of x.reading.numbers u) to ids
  falls_puts to [] fall = tt
  falls_puts to (id ∷ ids) (rank, own, above, rest) = (rank, key_puts id rank own, above_puts to rank above, falls_puts (Some id) ids rest)

  pub visits_puts : (start : Place) (wanted passed more most : ℕ) (to : Option ℕ) (own : List (Event N)) → length ys + more ≤ most
      → Visits x.reading start wanted passed more to own t → Visits x.reading start wanted passed most to (own ++ ys) u
  visits_puts start wanted passed more most to own short v = record {
    nodes = v.nodes;
    few = omega (arith, v.few, short, length-append own ys);
    way = way_left own ys start v.nodes to v.way;
    on = goes_puts wanted v.nodes v.on;
    fall = falls_puts to v.nodes v.fall;
    counted = counts_left x.reading own ys (heap_of x.reading.numbers t) (heap_of x.reading.numbers u) uncounted_puts v.nodes passed v.counted;
  }

  -- what a place showed goes on
  pub shows_on : (s : Seat N) (own zs : List (Event N)) (p : Puts s own t) (w : Puts s zs u) (place : Place) (link : Link) → 1 ≤ length own
      → IsLinkedPlace place (heap_of x.reading.numbers t)
      → ShowsOrMoved x.reading.numbers place link s t p.part → ShowsOrMoved x.reading.numbers place link s u w.part
  shows_on s own zs p w place link some linked shows =
      subst (λ es. ShowsOrMoved x.reading.numbers place link s u es) (sym (new_is s t u own ys zs p q w))
      (still_puts x.reading.numbers x.may x.owes.fits s t u own ys p q all place link some linked shows)

  pub quiet_puts : (s : Seat N) (own : List (Event N)) → Quiet x.reading s own t → AreLoads ys → u.fresh ≡ t.fresh → noted_entries x.reading.entries_in ys ≡ []
      → gives_in ys ≡ 0 → moves_in ys ≡ 0 → Quiet x.reading s (own ++ ys) u
  quiet_puts s own b loads fresh no_entries no_give no_move = record {
    puts = Puts-trans s t u own ys b.puts q;
    fresh = fresh ∙ b.fresh;
    loads = loads-append own ys b.loads loads;
    some = omega (arith, b.some, length-append own ys);
    no_entries = entries_of-append x own ys ∙ rw (b.no_entries, no_entries) refl;
    no_give = omega (arith, gives_in-append own ys, b.no_give, no_give);
    no_move = omega (arith, moves_in-append own ys, b.no_move, no_move);
  }

  -- where the left place leads goes on
  pub leads_puts : (start : Place) (wanted : ℕ) (left first : Option Hold) (left_id first_id : ℕ) (to : Option ℕ) (s : Seat N) (own : List (Event N))
      (p : Puts s own t) (w : Puts s (own ++ ys) u)
      → 1 ≤ length own
      → LeadsOver x.reading start wanted left first left_id first_id to s own t p.part → LeadsOver x.reading start wanted left first left_id first_id to s (own ++ ys) u
      w.part
  leads_puts start wanted left first left_id first_id to s own p w some l =
      let place = left_place (x.reading.order.root wanted) left left_id in
      record {
        from = l.from;
        plain = l.plain;
        below = below_puts place wanted l.below;
        still = shows_on s own (own ++ ys) p w place l.from some (left_place_linked x t place wanted l.below) l.still;
        over = l.over;
        run = run_puts l.from l.over to l.run;
        begins = l.begins;
        sees = sees_left own ys place l.from l.sees;
        sees_run = sees_run_left own ys l.from l.over to l.sees_run;
      }

  -- a search that has come so far goes on
  pub behind_puts : (start : Place) (wanted : ℕ) (left first : Option Hold) (left_id first_id : ℕ) (to : Option ℕ) (s : Seat N) (own : List (Event N))
      → Behind x.reading start wanted left first left_id first_id to s own t
      → AreLoads ys → u.fresh ≡ t.fresh → noted_entries x.reading.entries_in ys ≡ [] → gives_in ys ≡ 0 → moves_in ys ≡ 0
      → Behind x.reading start wanted left first left_id first_id to s (own ++ ys) u
  behind_puts start wanted left first left_id first_id to s own b loads fresh no_entries no_give no_move =
      let w = quiet_puts s own b.quiet loads fresh no_entries no_give no_move in
      record { quiet = w; leads = leads_puts start wanted left first left_id first_id to s own b.quiet.puts w.puts b.quiet.some b.leads }

-- where no own event comes in between

module _ {N : Type 0} (x : Ordering N) (t u : Seat N) (q : Puts t [] u) (all : AllAllowed x.may [] u.seen) where
  pub behind_on : (start : Place) (wanted : ℕ) (left first : Option Hold) (left_id first_id : ℕ) (to : Option ℕ) (s : Seat N) (own : List (Event N))
      → Behind x.reading start wanted left first left_id first_id to s own t
      → u.fresh ≡ t.fresh → Behind x.reading start wanted left first left_id first_id to s own u
  behind_on start wanted left first left_id first_id to s own b fresh =
      subst (λ z. Behind x.reading start wanted left first left_id first_id to s z u) (append-nil own)
      (behind_puts x t u [] q all start wanted left first left_id first_id to s own b tt fresh refl refl refl)

  pub visits_on : (start : Place) (wanted passed more : ℕ) (to : Option ℕ) (own : List (Event N))
      → Visits x.reading start wanted passed more to own t → Visits x.reading start wanted passed more to own u
  visits_on start wanted passed more to own v =
      subst (λ z. Visits x.reading start wanted passed more to z u) (append-nil own) (visits_puts x t u [] q all start wanted passed more more to own (omega arith) v)

  pub shows_still : (s : Seat N) (own : List (Event N)) (p : Puts s own t) (w : Puts s own u) (place : Place) (link : Link) → 1 ≤ length own
      → IsLinkedPlace place (heap_of x.reading.numbers t)
      → ShowsOrMoved x.reading.numbers place link s t p.part → ShowsOrMoved x.reading.numbers place link s u w.part
  shows_still s own p w place link some linked shows = shows_on x t u [] q all s own own p w place link some linked shows

  -- and so does one that looked at a node's link
  pub looking_on : (start : Place) (wanted : ℕ) (left first : Option Hold) (left_id first_id id key : ℕ) (counted : Bool) (passed : ℕ) (mark : Bool) (next : Option ℕ) (s : Seat N)
      (own : List (Event N))
      → Looking x.reading start wanted left first left_id first_id id key counted passed mark next s own t → u.fresh ≡ t.fresh
      → Looking x.reading start wanted left first left_id first_id id key counted passed mark next s own u
  looking_on start wanted left first left_id first_id id key counted passed mark next s own k fresh =
      let link : Link = record { to = next; mark = mark } in
      let b = behind_on start wanted left first left_id first_id (Some id) s own k.behind fresh in
      record {
        behind = b;
        is_of = is_of_puts x t u [] q all wanted id key k.is_of;
        still = shows_still s own k.behind.quiet.puts b.quiet.puts (Next id) link k.behind.quiet.some (rank_linked x.reading.order (heap_of x.reading.numbers t) id key k.is_of.has_key)
            k.still;
        frozen = λ is. marked_puts x t u [] q all id link (k.frozen is) is;
        follows = next_puts x t u [] q all id next k.follows;
        sees = k.sees;
        kind = λ is. uncounted_puts x t u [] q all id (k.kind is);
        visits = visits_on start wanted passed 4 (Some id) own k.visits;
      }

  -- once a Move stands there, one does
  pub moved_on : (s : Seat N) (own : List (Event N)) (p : Puts s own t) (w : Puts s own u) → 1 ≤ moves_in (from_own s.agent p.part)
      → 1 ≤ moves_in (from_own s.agent w.part)
  moved_on s own p w moved = omega (arith, moved, own_moves_left s t u own [] own p q w)

-- once linked nodes keep their values
pub values_on : {N : Type 0} (x : Ordering N) (t u : Seat N) (ys : List (Event N)) → Puts t ys u → AllAllowed x.may [] u.seen
    → KeepsValues (heap_of x.reading.numbers t) (heap_of x.reading.numbers u)
values_on {N} x t u ys q all =
    subst (λ es. KeepsValues (heap_of x.reading.numbers t) (run_heap x.reading.numbers es)) (sym q.is)
    (stays x.may (λ es. KeepsValues (heap_of x.reading.numbers t) (run_heap x.reading.numbers es)) step t.seen q.part same (part_allowed x.may t u ys q all))
  where
    same : KeepsValues (heap_of x.reading.numbers t) (heap_of x.reading.numbers t)
    same = record { stays = λ id l. (l, refl, refl) }

    step : (es : List (Event N)) (e : Event N) → KeepsValues (heap_of x.reading.numbers t) (run_heap x.reading.numbers es) → x.may es e
        → KeepsValues (heap_of x.reading.numbers t) (run_heap x.reading.numbers (es ++ e ∷ []))
    step es e k may = record {
      stays = λ id l.
          let (m, a, b) = k.stays id l in
          let (o, c, d) = (values_after e.agent e.act (run_heap x.reading.numbers es) (x.owes.fits es e may)).stays id m in
          rw (run_heap-snoc x.reading.numbers es e) (o, c ∙ a, d ∙ b);
    }
