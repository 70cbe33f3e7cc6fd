-- The Aims of a fresh node's links.
use Rattle.std.specs.Borrow.{Bor}
use Rattle.std.specs.Prelude.{List, None, Option, ℕ}
use Rattle.orc_heap.specs.Acts.{aim_act}
use Rattle.orc_heap.specs.Allowed.{AllowedWhereFits}
use Rattle.orc_heap.specs.Calls.{event_of}
use Rattle.orc_heap.specs.Heap.{HeapNumbers}
use Rattle.orc_heap.specs.Seats.{HoldsFresh, HoldsTarget, Seat, target_in}
use Rattle.orc_heap.specs.Slots.{Hold, id_in}
use Rattle.orc_heap.specs.declared.events.Event.{Event}

module _ {N : Type 0} where
  -- an Aim of the first (0) or second (1) link of the fresh node, and that the discipline allows it wherever it fits
  abbrev pub aim_at : Seat N → ℕ → Hold → Option (Bor Hold) → Event N
  aim_at s number fresh to = event_of s (aim_act number (id_in s.slots fresh) (target_in s.slots to)) None

  abbrev pub MayAimAt : (List (Event N) → Event N → Type 0) → HeapNumbers → Seat N → ℕ → Hold → Option (Bor Hold) → Type 0
  MayAimAt may n s number fresh to = AllowedWhereFits may n s.agent s.seen (aim_at s number fresh to)

  -- the pass holds the fresh node and its target, and may make that Aim
  pub record MayAimLink (may : List (Event N) → Event N → Type 0) (n : HeapNumbers) (s : Seat N) (number : ℕ) (hold : Hold) (to : Option (Bor Hold))
      : Type 0 where
    pub fresh : HoldsFresh s hold
    pub target : HoldsTarget s to
    pub allowed : MayAimAt may n s number hold to
