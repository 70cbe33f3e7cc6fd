-- What the steps of a search come to.
use Rattle.std.specs.Prelude.{Bool, List, Option, Some, false, ℕ, ◌++◌, ◌<◌, ◌≡◌, ◌≤◌, ◌^◌}
use Rattle.orc_heap.specs.Allowed.{AllAllowed}
use Rattle.orc_heap.specs.Heap.{shown}
use Rattle.orc_heap.specs.Journals.{run_heap}
use Rattle.orc_heap.specs.Seats.{Seat, heap_of}
use Rattle.orc_heap.specs.Slots.{Hold}
use Rattle.orc_heap.specs.declared.events.Event.{Event}
use Rattle.orc_heap.specs.declared.events.Link.{Link}
use Rattle.orc_heap.specs.declared.events.Place.{Place}
use Rattle.orc_ordered_chains.specs.Chains.{HasRank}
use Rattle.orc_ordered_search.specs.Reading.{Reading}
use Rattle.orc_ordered_search.specs.Searches.{Begins, FindsAbsent, FindsMoved, FindsPresent, IsUncounted, Walks}
use Rattle.orc_ordered_search.specs.Ways.{IsFew}
use Rattle.orc_ordered_search.specs.declared.walk.Searched.{Searched}
use Rattle.orc_ordered_search.specs.declared.walk.Searched.TheVariants.{Absent, Over, Present}
use Rattle.orc_ordered_search.specs.declared.walk.Stepped.{Stepped}
use Rattle.orc_ordered_search.specs.declared.walk.Stepped.TheVariants.{End, On}

module _ {N : Type 0} (r : Reading N) where
  -- a read of a once linked node's rank, which says too whether the node may be counted
  pub record ReadsRank (id number : ℕ) (counted : Bool) (t : Seat N) : Type 0 where
    pub rank : (rank : ℕ) → HasRank r.order (heap_of r.numbers t) id rank → number ≡ rank
    pub kind : (rank : ℕ) → HasRank r.order (heap_of r.numbers t) id rank → counted ≡ false → IsUncounted r (heap_of r.numbers t) id

  -- the place's link is never marked, whatever comes after these events
  abbrev pub IsNeverMarked : (List (Event N) → Event N → Type 0) → List (Event N) → Place → Type 0
  IsNeverMarked may seen place = (more : List (Event N)) → AllAllowed may seen more → (link : Link)
      → shown (run_heap r.numbers (seen ++ more)) place ≡ Some link → link.mark ≡ false

  -- a search begins at such a place
  pub record BeginsPlain (may : List (Event N) → Event N → Type 0) (start : Place) (wanted : ℕ) (left : Option Hold) (s t : Seat N) : Type 0 where
    pub begins : Begins r start wanted left s t
    pub plain : IsNeverMarked may t.seen start

  -- how a search ended: where a link moved meanwhile, after few events
  abbrev pub Finds : Place → ℕ → Seat N → Searched → Seat N → Type 0
  Finds start wanted s Over t = (f : FindsMoved r s t) × IsFew 4 f.own
  Finds start wanted s (Absent left first right passed) t = FindsAbsent r start wanted passed left first right s t
  Finds start wanted s (Present left first node next passed) t = FindsPresent r start wanted passed left first node next s t

  -- what a step of a search came to: a node with no lower rank than this, or the end
  abbrev pub StepsTo : {K : Type 0} → (K → ℕ) → (K → Bool) → Place → ℕ → ℕ → Seat N → Stepped K → Seat N → Type 0
  StepsTo number counted start wanted least s (On walk) t =
      Walks r start wanted walk.left walk.first walk.at (number walk.rank) (counted walk.rank) walk.passed s t × (least ≤ number walk.rank)
      × (number walk.rank < 2 ^ 128)
  StepsTo number counted start wanted least s (End found) t = Finds start wanted s found t
