-- From what a search found to an answer.
use Rattle.std.proofs.Common.{Bool, List, None, Option, Some, [], ap, arith, false, refl, subst, true, ℕ, ◌++◌, ◌∙◌, ◌∷◌, ◌≡◌}
use Rattle.orc_heap.proofs.ByAnswer.{Tests-found, Tests-missed}
use Rattle.orc_heap.proofs.Hands.{holds_of}
use Rattle.orc_heap.proofs.Moved.{moves_in-append}
use Rattle.orc_heap.proofs.Pieces.{puts_released}
use Rattle.orc_heap.specs.Allowed.{AllAllowed}
use Rattle.orc_heap.specs.Calls.{Misses, Tests, event_of}
use Rattle.orc_heap.specs.Hands.{Hand, IsHeldApart}
use Rattle.orc_heap.specs.Moves.{IsLinkedPlace, ShowsOrMoved, moves_in}
use Rattle.orc_heap.specs.OwnEvents.{Puts}
use Rattle.orc_heap.specs.Seats.{Seat, heap_of, link_in, place_in}
use Rattle.orc_heap.specs.Slots.{Hold, Slots}
use Rattle.orc_heap.specs.declared.events.Act.TheVariants.{Look, Miss}
use Rattle.orc_heap.specs.declared.events.Event.{Event}
use Rattle.orc_heap.specs.declared.events.Link.{Link}
use Rattle.orc_heap.specs.declared.events.Place.{Place}
use Rattle.orc_heap.specs.declared.events.Place.TheVariants.{Next, Root}
use Rattle.orc_heap.specs.declared.holds.At.{At}
use Rattle.orc_heap.specs.declared.holds.Want.{Want}
use Rattle.orc_history.specs.declared.set.SetEntry.{SetEntry}
use Rattle.orc_ordered_chains.specs.Chains.{IsRun, link_over}
use Rattle.orc_ordered_search.specs.Reading.{Ordering}
use Rattle.orc_ordered_search.specs.Turns.{EntersFew, LoadsOnce, Tires}
use Rattle.orc_ordered_search.specs.Ways.{IsFew}
use Rattle.orc_ordered_search.proofs.Making.{made_after, made_on, missed, one_over, over_on}
use Rattle.orc_ordered_search.proofs.Seen.{few_more, loads-append}
use Rattle.orc_ordered_search.specs.Searches.{AllGone, BeginsRun, InHand, LeadsOver, Quiet, first_or, left_place, node_of, place_at, target_at}
use Rattle.orc_ordered_search.proofs.Held.{in_hand_on}
use Rattle.orc_ordered_search.proofs.Quiets.{silent_one}

-- a load that found another link, and then all nodes are let go
pub missed_over : {N : Type 0} (ord : Ordering N) (s t u y : Seat N) (own : List (Event N)) (place : Place) (link : Link) (q : Quiet ord.reading s own t)
    → ShowsOrMoved ord.reading.numbers place link s t q.puts.part → IsLinkedPlace place (heap_of ord.reading.numbers t)
    → Misses place link t u → AllGone s.slots u y → u.fresh ≡ t.fresh → AllAllowed ord.may [] u.seen → IsFew 2 own
    → (a : Tires ord.reading 1 s y) × IsFew 3 a.own
missed_over {N} ord s t u y own place link q still linked here g fresh all_u few =
    let e : Event N = event_of t (Miss place link here.found) None in
    let m = made_after ord.reading 0 s t u own (e ∷ []) [] q here.puts (silent_one ord t.agent (Miss place link here.found)) refl in
    let moved = missed ord s t u own (own ++ e ∷ []) place link q.puts q.some still linked here all_u m.puts in
    let none : moves_in (own ++ e ∷ []) ≡ 0 = omega (arith, moves_in-append own (e ∷ []), q.no_move) in (
      record {
        own = own ++ e ∷ [];
        over = over_on ord.reading 0 1 s u y (own ++ e ∷ []) (one_over ord.reading 0 s u (own ++ e ∷ []) m none moved) g.puts;
        loads = loads-append own (e ∷ []) q.loads (tt, tt);
        slots = g.slots_are;
        fresh = g.fresh ∙ (fresh ∙ q.fresh);
      },
      few_more 2 3 own (e ∷ []) few (omega arith),
    )

-- one load that still finds the link enters the answer, and then all nodes are let go; or the link moved
pub entered_at : {N : Type 0} (ord : Ordering N) (s t u y : Seat N) (own : List (Event N)) (place : Place) (link : Link) (noted : N) (entry : SetEntry)
    (at : At) (want : Want) (done : Bool) (q : Quiet ord.reading s own t) → IsFew 2 own → ord.reading.entries_in (Some noted) ≡ entry ∷ []
    → ShowsOrMoved ord.reading.numbers place link s t q.puts.part → IsLinkedPlace place (heap_of ord.reading.numbers t)
    → place_in t.slots at ≡ place → link_in t.slots want ≡ link → Tests at want (Some noted) t done u
    → AllGone s.slots u y → AllAllowed ord.may [] u.seen → EntersFew ord.reading entry s done y
entered_at {N} ord s t u y own place link noted entry at want done q few enters still linked place_is link_is tests g all_u = by done refl
  where
    by : (b : Bool) → done ≡ b → EntersFew ord.reading entry s b y
    by true is =
        let e : Event N = event_of t (Look (place_in t.slots at) (link_in t.slots want)) (Some noted) in
        let p : Puts t (e ∷ []) u = Tests-found tests is in (
          record {
            own = own ++ e ∷ [];
            made = made_on ord.reading 0 s u y (own ++ e ∷ []) (entry ∷ [])
                (made_after ord.reading 0 s t u own (e ∷ []) (entry ∷ []) q p (rw enters refl) refl) g.puts;
            slots = g.slots_are;
            fresh = g.fresh ∙ (tests.fresh ∙ q.fresh);
          },
          few_more 2 3 own (e ∷ []) few (omega arith),
        )
    by false is =
        let miss = Tests-missed tests is in
        let here : Misses place link t u =
        subst (λ (p : Place). Misses p link t u) place_is (subst (λ (l : Link). Misses (place_in t.slots at) l t u) link_is miss) in
        missed_over ord s t u y own place link q still linked here g (tests.fresh) all_u few

-- it is one load
pub tests_once : {N : Type 0} (at : At) (want : Want) (noted : Option N) (done : Bool) (s t u : Seat N) → Tests at want noted s done t → Puts t [] u
    → LoadsOnce s u
tests_once {N} at want noted done s t u tests gone = by done refl
  where
    by : (b : Bool) → done ≡ b → LoadsOnce s u
    by true is = record { event = _; load = tt; puts = puts_released s t u _ (Tests-found tests is) gone }
    by false is = record { event = _; load = tt; puts = puts_released s t u _ (Tests-missed tests is).puts gone }

-- what is in hand stays so at the load
pub tested_hand : {N : Type 0} (ord : Ordering N) (slots : Slots) (left first at next : Option Hold) (where_at : At) (want : Want) (noted : Option N)
    (done : Bool) (t u : Seat N)
    → Tests where_at want noted t done u → AllAllowed ord.may [] u.seen
    → InHand ord.reading slots left first at next t → InHand ord.reading slots left first at next u
tested_hand {N} ord slots left first at next where_at want noted done t u tests all h = cases done refl
  where
    cases : (b : Bool) → done ≡ b → InHand ord.reading slots left first at next u
    cases true is = in_hand_on ord slots left first at next t u _ (Tests-found tests is) all tests.slots h
    cases false is = in_hand_on ord slots left first at next t u _ (Tests-missed tests is).puts all tests.slots h

-- by what is in hand: the link that the left place showed

pub place_of_hand : (before after : Slots) (root of_rank : ℕ) → root ≡ of_rank → (o : Option Hold) (id : ℕ) (hs : List Hand)
    → IsHeldApart before after o id hs → place_at after root o ≡ left_place of_rank o id
place_of_hand before after root of_rank is None id hs k = ap (λ (x : ℕ). Root x) is
place_of_hand before after root of_rank is (Some h) id hs k = ap (λ (x : ℕ). Next x) (holds_of after h id k.0).1

pub target_of_hand : (before after : Slots) (o : Option Hold) (id : ℕ) (hs : List Hand) → IsHeldApart before after o id hs → target_at after o ≡ node_of o
    id
target_of_hand before after None id hs k = refl
target_of_hand before after (Some h) id hs k = ap (λ (x : ℕ). Some x) (holds_of after h id k.0).1

-- the first node of a run, or else where it leads
abbrev pub head_of : Option Hold → ℕ → Option ℕ → Option ℕ
head_of None first_id to = to
head_of (Some h) first_id to = Some first_id

link_is : (l : Link) (to : Option ℕ) → l.mark ≡ false → l.to ≡ to → l ≡ link_over to
link_is l to plain is = ap (λ (b : Bool). record { to = l.to; mark = b }) plain ∙ ap (λ (t : Option ℕ). link_over t) is

pub from_is : {N : Type 0} (ord : Ordering N) (start : Place) (wanted : ℕ) (left first : Option Hold) (left_id first_id : ℕ) (to : Option ℕ) (s : Seat N)
    (own : List (Event N)) (t : Seat N) (part : List (Event N))
    → (l : LeadsOver ord.reading start wanted left first left_id first_id to s own t part) → l.from ≡ link_over (head_of first first_id to)
from_is {N} ord start wanted left first left_id first_id to s own t part l = link_is l.from (head_of first first_id to) l.plain (cases first l.begins)
  where
    first_step : (others : List ℕ) → IsRun (heap_of ord.reading.numbers t) l.from (first_id ∷ others) to → l.from.to ≡ Some first_id
    first_step others (to_is, next, own, mark, rest) = to_is

    cases : (o : Option Hold) → BeginsRun o first_id l.over → l.from.to ≡ head_of o first_id to
    cases None is = subst (λ z. IsRun (heap_of ord.reading.numbers t) l.from z to) is l.run
    cases (Some h) (others, is) = first_step others (subst (λ z. IsRun (heap_of ord.reading.numbers t) l.from z to) is l.run)

pub target_is : (before after : Slots) (first right : Option Hold) (first_id right_id : ℕ) (hs ks : List Hand) → IsHeldApart before after first first_id hs
    → IsHeldApart before after right right_id ks
    → target_at after (first_or first right) ≡ head_of first first_id (node_of right right_id)
target_is before after None right first_id right_id hs ks a b = target_of_hand before after right right_id ks b
target_is before after (Some h) right first_id right_id hs ks a b = ap (λ (x : ℕ). Some x) (holds_of after h first_id a.0).1
