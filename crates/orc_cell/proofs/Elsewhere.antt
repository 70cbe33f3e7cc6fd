-- An act that is no Move of a place leaves what it shows.
use Rattle.std.proofs.Common.{None, [], false, inl, inr, true, ℕ, ◌∷◌, ◌≡◌}
use Rattle.std.specs.Prelude.{Bool, ◌||◌}
use Rattle.orc_heap.proofs.Moved.{shown_or_moved_there}
use Rattle.orc_heap.specs.Acts.{Fits, heap_after}
use Rattle.orc_heap.specs.Heap.{Heap, shown}
use Rattle.orc_heap.specs.Journals.{event_by}
use Rattle.orc_heap.specs.Moves.{IsLinkedPlace, moves_place}
use Rattle.orc_heap.specs.declared.events.Act.{Act}
use Rattle.orc_heap.specs.declared.events.Place.{Place}

or_false : (b : Bool) → b ≡ false → (b || false) ≡ true → ⊥
or_false true is moved = cc
or_false false is moved = cc

pub shown_elsewhere : (agent : ℕ) (act : Act) (h : Heap) (place : Place) → Fits agent act h → IsLinkedPlace place h → moves_place place act ≡ false
    → shown (heap_after agent act h) place ≡ shown h place
shown_elsewhere agent act h place fits there away =
    elim (shown_or_moved_there {N = ℕ} h place (event_by agent act None ∷ []) (fits, tt) there) [
      | inl same ↦ same
      | inr moved ↦ absurd (or_false (moves_place place act) away moved)
    ]
