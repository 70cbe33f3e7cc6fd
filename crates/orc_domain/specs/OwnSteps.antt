-- What the agent of a call takes in.
use Rattle.std.specs.Prelude.{List, None, Some, [], slice_get, ℕ, ◌++◌, ◌∷◌, ◌≡◌, ◌≢◌, ◌⊎◌}
use Rattle.orc_core.specs.declared.ops.Op.{Op}
use Rattle.orc_core.specs.declared.ops.Op.TheVariants.{Clear, MoveOn, TakeIn}
use Rattle.orc_machine_rest.specs.OwnSteps.{HasTakenIn}
use Rattle.orc_heap.specs.Seats.{Seat}
use Rattle.orc_sound.specs.declared.steps.Step.{Step}

-- none of these ops clears the slot
abbrev pub ClearsNo : ℕ → List Op → Type 0
ClearsNo slot [] = Unit {0}
ClearsNo slot (op ∷ ops) = (op ≢ Clear slot) × ClearsNo slot ops

-- these ops clear the slot, and right after the last time they take in what was handed over beside it
pub record EndsTakenIn (slot : ℕ) (ops : List Op) : Type 0 where
  pub earlier : List Op
  pub later : List Op
  pub is : ops ≡ earlier ++ Clear slot ∷ TakeIn slot ∷ later
  pub last : ClearsNo slot later

-- a slot that moved on is cleared no more, or taken in from once it is
abbrev pub TakesInMoved : List Op → Type 0
TakesInMoved ops = (earlier later : List Op) (slot row : ℕ) → ops ≡ earlier ++ MoveOn slot row ∷ later → ClearsNo slot later ⊎ EndsTakenIn slot later

-- in what is new, the pass took in what was handed over beside each slot in which it holds nothing
abbrev pub TakesInFree : {N : Type 0} → Seat N → List (Step N) → List (Step N) → Type 0
TakesInFree s before after = (slot : ℕ) → slice_get s.slots slot ≡ Some None → HasTakenIn s.agent slot before after
