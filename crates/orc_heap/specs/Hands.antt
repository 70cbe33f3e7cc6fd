-- What a call has in hand: the nodes that it holds besides those that its pass held before.
use Rattle.std.specs.Prelude.{List, None, Option, Some, [], length, slice_get, ℕ, ◌∷◌, ◌≡◌, ◌≢◌}
use Rattle.orc_heap.specs.Slots.{Hold, Slots}

-- a hold, or none, and the node that it holds
pub record Hand : Type 0 where
  pub hold : Option Hold
  pub id : ℕ

-- this hold, or none, of this node
abbrev pub hand : Option Hold → ℕ → Hand
hand hold id = record { hold = hold; id = id }

-- the hold's slot has this node in its row
abbrev pub HoldsId : Slots → Hold → ℕ → Type 0
HoldsId slots h id = slice_get slots h.slot ≡ Some (Some (record { row = h.row; id = id }))

-- the slot isn't that of the hold, if there is one
abbrev pub IsApartOf : ℕ → Option Hold → Type 0
IsApartOf slot None = Unit {0}
IsApartOf slot (Some h) = slot ≢ h.slot

-- the slot is that of no hand
abbrev pub IsApart : ℕ → List Hand → Type 0
IsApart slot [] = Unit {0}
IsApart slot (x ∷ xs) = IsApartOf slot x.hold × IsApart slot xs

-- the hold, if there is one, is of its node, in a slot that was free before, and in no other hand's slot
abbrev pub IsHeldApart : Slots → Slots → Option Hold → ℕ → List Hand → Type 0
IsHeldApart before after None id xs = Unit {0}
IsHeldApart before after (Some h) id xs = HoldsId after h id × (slice_get before h.slot ≡ Some None) × IsApart h.slot xs

-- each hand is so
abbrev pub AreHeld : Slots → Slots → List Hand → Type 0
AreHeld before after [] = Unit {0}
AreHeld before after (x ∷ xs) = IsHeldApart before after x.hold x.id xs × AreHeld before after xs

-- beside what was held before these nodes are in hand, and nothing else
pub record Hands (before after : Slots) (hands : List Hand) : Type 0 where
  pub same_length : length after ≡ length before
  pub others : (slot : ℕ) → IsApart slot hands → slice_get after slot ≡ slice_get before slot
  pub held : AreHeld before after hands
