-- Plain queues: what contracts see of one and of its pass, and why a call is refused.
use Rattle.std.specs.Prelude.{Bool, ◌≡◌, ℕ, ◌+◌, ◌<◌, ◌≤◌, ◌^◌, List, [], ◌∷◌, length, take}
use Rattle.std.proofs.Common.{zero, suc, arith}
use Rattle.orc_history.specs.declared.queue.QueueEntry.{QueueEntry}
use Rattle.orc_history.specs.declared.queue.QueueEntry.TheVariants.{Put, Took, Empty}
use Rattle.orc_history.specs.declared.queue.QueueRefused.{QueueRefused}
use Rattle.orc_history.specs.declared.queue.QueueRefused.TheVariants.{Again, NoNode, Positions}
use Rattle.orc_history.specs.QueueHistory.{IsLegalQueue, waiting_after, puts_in}
use Rattle.orc_history.specs.StoredHistory.{HasTurn, LacksTurn, RefusedAt}

-- a plain queue: how many items it takes, the position of its first Put, and whether it still has its state
pub record QueueView : Type 0 where
  pub room : ℕ
  pub first : ℕ
  pub whole : Bool

-- its pass, which is its state: the agent of later entries, and the stored history
pub record QueuePassView : Type 0 where
  pub agent : ℕ
  pub room : ℕ
  pub first : ℕ
  pub history : List QueueEntry

-- the pass is one of this queue, and its history is legal
pub record IsQueuePass (queue : QueueView) (pass : QueuePassView) : Type 0 where
  pub same_room : pass.room ≡ queue.room
  pub same_first : pass.first ≡ queue.first
  pub legal : IsLegalQueue queue.first pass.history

-- an enqueue with these turns is refused for this cause: Again first, then NoNode, then Positions;
-- a dequeue is refused where Again is the cause
abbrev pub RefusesEnqueue : QueueView → ℕ → List QueueEntry → QueueRefused → Type 0
RefusesEnqueue queue turns history Again = LacksTurn queue.room turns (length history)
RefusesEnqueue queue turns history NoNode =
    HasTurn queue.room turns (length history) × (queue.room ≤ length (waiting_after [] history))
RefusesEnqueue queue turns history Positions =
    HasTurn queue.room turns (length history) × (length (waiting_after [] history) < queue.room) × (2 ^ 62 ≤ queue.first + puts_in history)

-- the items and the next position that a pass holds are those of its history
pub record HoldsQueue (room first next : ℕ) (items : List (ℕ × ℕ)) (history : List QueueEntry) : Type 0 where
  pub items_are : items ≡ waiting_after [] history
  pub items_fit : length items ≤ room
  pub next_is : next ≡ first + puts_in history
  pub next_in_range : next ≤ 2 ^ 62
  pub legal : IsLegalQueue first history

pub puts_in-take : (n : ℕ) (es : List QueueEntry) → puts_in (take n es) ≤ puts_in es
puts_in-take zero es = omega arith
puts_in-take (suc n) [] = omega arith
puts_in-take (suc n) (Put agent job at ∷ es) = omega (arith, puts_in-take n es)
puts_in-take (suc n) (Took agent job at ∷ es) = puts_in-take n es
puts_in-take (suc n) (Empty agent ∷ es) = puts_in-take n es

-- Positions comes only once the Puts have used the positions up
pub enough_puts : (queue : QueueView) (turns : ℕ) (seen : List QueueEntry) (from : ℕ)
    → RefusedAt (RefusesEnqueue queue turns) Positions seen from → 2 ^ 62 ≤ queue.first + puts_in seen
enough_puts queue turns seen from h = omega (arith, h.cause.2, puts_in-take from seen)
