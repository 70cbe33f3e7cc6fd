-- A search begins at a root or a node in hand, and reads the rank of each node.
use Rattle.std.proofs.Common.{Bool, Option, Some, [], arith, subst, sym, ℕ, ◌∙◌, ◌∷◌, ◌≡◌, ◌≤◌}
use Rattle.orc_heap.proofs.Hands.{hand_held, holds_of}
use Rattle.orc_heap.specs.Allowed.{AllAllowed, IsLinkedNode}
use Rattle.orc_heap.specs.Calls.{Looks}
use Rattle.orc_heap.specs.Hands.{hand}
use Rattle.orc_heap.specs.OwnEvents.{Only}
use Rattle.orc_heap.specs.Seats.{Seat, heap_of}
use Rattle.orc_heap.specs.Slots.{Hold, id_in}
use Rattle.orc_heap.specs.declared.events.Place.{Place}
use Rattle.orc_heap.specs.declared.holds.Looked.{Looked}
use Rattle.orc_ordered_chains.proofs.Acts.{rank_linked}
use Rattle.orc_ordered_search.proofs.Entering.{place_of_hand}
use Rattle.orc_ordered_search.proofs.Held.{first_held}
use Rattle.orc_ordered_search.proofs.Stepping.{passed_some}
use Rattle.orc_ordered_search.specs.Reading.{Ordering, Reading}
use Rattle.orc_ordered_search.specs.Searches.{Begins, HoldsIfAny, Passed, Walks, place_at}
use Rattle.orc_ordered_search.specs.Steps.{ReadsRank, StepsTo}
use Rattle.orc_ordered_search.specs.declared.walk.Stepped.{Stepped}
use Rattle.orc_ordered_search.specs.declared.walk.Stepped.TheVariants.{End, On}

-- the place that is named for the first Look is the one at which the search begins, and it is held
pub begin_place : {N : Type 0} (r : Reading N) (start : Place) (root wanted : ℕ) (left : Option Hold) (s t : Seat N) → root ≡ r.order.root wanted
    → Begins r start wanted left s t → place_at t.slots root left ≡ start
begin_place {N} r start root wanted left s t is b =
    place_of_hand s.slots t.slots root (r.order.root wanted) is left b.left_id [] b.hands.held.0 ∙ sym b.start_is

pub begin_held : {N : Type 0} (r : Reading N) (start : Place) (wanted : ℕ) (left : Option Hold) (s t : Seat N) → Begins r start wanted left s t
    → HoldsIfAny t.slots left
begin_held {N} r start wanted left s t b = first_held s.slots t.slots left b.left_id [] b.hands

pub looks_from : {N : Type 0} (p q : Place) (slot : ℕ) (looked : Looked) (t u : Seat N) → p ≡ q → Looks p slot t looked u → Looks q slot t looked u
looks_from {N} p q slot looked t u is k = subst (λ (z : Place). Looks z slot t looked u) is k

-- the next node was once linked
pub passed_linked : {N : Type 0} (ord : Ordering N) (start : Place) (wanted least passed : ℕ) (left first : Option Hold) (at : Hold) (s t : Seat N)
    → Passed ord.reading start wanted least passed left first (Some at) s t → IsLinkedNode (heap_of ord.reading.numbers t) (id_in t.slots at)
passed_linked {N} ord start wanted least passed left first at s t w =
    let (held, id_is) = holds_of t.slots at w.next_id (hand_held s.slots t.slots (hand left w.left_id ∷ hand first w.first_id ∷ []) at w.next_id w.hands) in
    let (rank, is_of, low) = w.next_is in
    subst (λ (i : ℕ). IsLinkedNode (heap_of ord.reading.numbers t) i) (sym id_is)
    (rank_linked ord.reading.order (heap_of ord.reading.numbers t) w.next_id rank is_of.has_key)

-- its rank was read
pub passed_read : {N : Type 0} (ord : Ordering N) (start : Place) (wanted least passed : ℕ) (left first : Option Hold) (at : Hold) (number : ℕ)
    (counted : Bool) (s t u : Seat N) → Passed ord.reading start wanted least passed left first (Some at) s t → Only [] t u
    → ReadsRank ord.reading (id_in t.slots at) number counted u → AllAllowed ord.may [] u.seen
    → Walks ord.reading start wanted left first at number counted passed s u × (least ≤ number)
passed_read {N} ord start wanted least passed left first at number counted s t u w only read all =
    passed_some ord start wanted least passed left first at number counted s t u w only read.rank read.kind all

-- a step that comes at least so far comes at least less far
pub steps_up : {N K : Type 0} (r : Reading N) (number : K → ℕ) (counted : K → Bool) (start : Place) (wanted low least : ℕ) (s : Seat N)
    (stepped : Stepped K) (t : Seat N) → StepsTo r number counted start wanted least s stepped t → low ≤ least
    → StepsTo r number counted start wanted low s stepped t
steps_up {N} {K} r number counted start wanted low least s (On walk) t (w, up, high) le = (w, omega (arith, up, le), high)
steps_up {N} {K} r number counted start wanted low least s (End found) t f le = f
