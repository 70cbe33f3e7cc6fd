-- What the slots of a pass hold. A slot protects a node from being reused (OrcGC, Correia, Ramalhete and Felber 2021).
use Rattle.std.specs.Prelude.{List, None, Option, Some, slice_get, ℕ, ◌<◌, ◌≡◌}

-- how a caller names a hold: by row and slot
pub record Hold : Type 0 where
  pub row : ℕ
  pub slot : ℕ

-- what a slot holds: a node, and the row that it lies in
pub record SlotNode : Type 0 where
  pub row : ℕ
  pub id : ℕ

-- eight slots, each empty or with a node
abbrev pub Slots : Type 0
Slots = List (Option SlotNode)

-- the node in a slot, or 0 where there is none
abbrev pub id_of : Option (Option SlotNode) → ℕ
id_of (Some (Some x)) = x.id
id_of x = 0

-- the node that the hold names
abbrev pub id_in : Slots → Hold → ℕ
id_in slots h = id_of (slice_get slots h.slot)

-- the slot of the hold has a node in its row
abbrev pub Holds : Slots → Hold → Type 0
Holds slots h = slice_get slots h.slot ≡ Some (Some (record { row = h.row; id = id_in slots h }))

-- an empty slot, other than slot 0
pub record IsFree (slots : Slots) (slot : ℕ) : Type 0 where
  pub above : 0 < slot
  pub below : slot < 8
  pub empty : slice_get slots slot ≡ Some None
