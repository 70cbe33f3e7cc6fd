-- Plain sets: what contracts see of one and of its pass, and why a call is refused.
use Rattle.std.specs.Prelude.{Bool, ◌≡◌, ℕ, ◌≤◌, List, [], length}
use Rattle.std.specs.List.Sorted.{IsPermutation, IsStrictlyIncreasing}
use Rattle.orc_history.specs.declared.set.SetEntry.{SetEntry}
use Rattle.orc_history.specs.declared.set.ListRefused.{ListRefused}
use Rattle.orc_history.specs.declared.set.ListRefused.TheVariants.{Again, NoNode, Spent}
use Rattle.orc_history.specs.SetHistory.{IsLegalSet, keys_after}
use Rattle.orc_history.specs.StoredHistory.{HasTurn, LacksTurn}

-- a plain set: how many keys it takes, and whether it still has its state
pub record SetView : Type 0 where
  pub room : ℕ
  pub whole : Bool

-- its pass, which is its state: the agent of later entries, and the stored history
pub record SetPassView : Type 0 where
  pub agent : ℕ
  pub room : ℕ
  pub history : List SetEntry

-- the pass is one of this set, and its history is legal
pub record IsSetPass (set : SetView) (pass : SetPassView) : Type 0 where
  pub same_room : pass.room ≡ set.room
  pub legal : IsLegalSet pass.history

-- an insert with these turns is refused for this cause: Again first, then NoNode, also for a key that is in the set;
-- a remove or contains is refused where Again is the cause
abbrev pub RefusesInsert : SetView → ℕ → List SetEntry → ListRefused → Type 0
RefusesInsert set turns history Again = LacksTurn set.room turns (length history)
RefusesInsert set turns history NoNode =
    HasTurn set.room turns (length history) × (set.room ≤ length (keys_after [] history))
RefusesInsert set turns history (Spent spent) = ⊥

-- the keys that a pass holds are those of its history, each below the later ones
pub record HoldsSet (room : ℕ) (keys : List ℕ) (history : List SetEntry) : Type 0 where
  pub keys_are : IsPermutation (keys_after [] history) keys
  pub keys_rise : IsStrictlyIncreasing keys
  pub keys_fit : length keys ≤ room
  pub legal : IsLegalSet history
