-- What passes learn from each other, in one round and in two.
use Rattle.std.specs.Prelude.{List, length, slice_index_or, ℕ, ◌<◌, ◌∷◌, ◌≡◌}
use mathlib.Core.List.{IsPrefix}
use Rattle.orc_heap.specs.Seats.{Seat}
use Rattle.orc_history.specs.Journals.{own_of}
use Rattle.orc_history.specs.Lists.{Pairwise}

module _ {N W : Type 0} (seat : W → Seat N) where
  -- a pass, which was v and is w, holds what it held
  pub record HoldsSame (v w : W) : Type 0 where
    pub agent : (seat w).agent ≡ (seat v).agent
    pub slots : (seat w).slots ≡ (seat v).slots
    pub fresh : (seat w).fresh ≡ (seat v).fresh

  -- of passes that have seen lists, of steps or of events, in which each element is some agent's
  module _ {S : Type 0} (agent_of : S → ℕ) (list : W → List S) where
    -- it has seen more, but nothing new of its own agent
    pub record Hears (v w : W) : Type 0 where
      pub same : HoldsSame v w
      pub more : IsPrefix (list v) (list w)
      pub own : own_of agent_of (seat v).agent (list w) ≡ own_of agent_of (seat v).agent (list v)

    -- and what it has seen lies between these two lists
    pub record HearsWithin (low high : List S) (v w : W) : Type 0 where
      pub hears : Hears v w
      pub least : IsPrefix low (list w)
      pub most : IsPrefix (list w) high

    -- it has seen this list
    pub record HearsAll (all : List S) (v w : W) : Type 0 where
      pub hears : Hears v w
      pub seen : list w ≡ all

    -- one of these passes had seen this list
    pub record IsOneOf (passes : List W) (it : List S) : Type 0 where
      pub place : ℕ
      pub low : place < length passes
      pub is : (p : W) → it ≡ list (slice_index_or passes place p)

    -- a pass, which was v and is w, has learned from passes, which were `before` and are `after`: it has seen the longest of all their
    -- lists, and each of the others has seen what it had seen
    pub record LearnsRound (v w : W) (before after : List W) : Type 0 where
      pub first : Hears v w
      pub others : Pairwise (HearsWithin (list v) (list w)) before after
      pub longest : IsOneOf (v ∷ before) (list w)

    -- it has learned from them twice: all have seen one list, the longest of theirs
    pub record LearnsAll (v w : W) (before after : List W) : Type 0 where
      pub each : Pairwise (HearsAll (list w)) (v ∷ before) (w ∷ after)
      pub longest : IsOneOf (v ∷ before) (list w)
