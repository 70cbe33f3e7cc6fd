-- Passes that drain one after another.
use Rattle.std.specs.Prelude.{List, [], suc, ◌++◌, ◌∷◌, ◌≡◌, ℕ}
use Rattle.orc_any_domain.specs.Learning.{HoldsSame}
use Rattle.orc_machine_rest.specs.Parts.{NoEvents}
use Rattle.orc_core.specs.Machine.{record_at}
use Rattle.orc_rest.specs.Drains.{Drained}
use Rattle.orc_heap.specs.Seats.{Seat}
use Rattle.orc_machine_board.specs.Passes.{steps_of}
use Rattle.orc_machine_board.specs.Rules.{run_of}
use Rattle.orc_rest.specs.Records.{IsBetweenRounds}
use Rattle.orc_sound.specs.Journals.{plain}
use Rattle.orc_sound.specs.declared.steps.Step.{Step}
use Rattle.orc_words.specs.Bounds.{Bounds}

module _ {N : Type 0} where
  -- the agent drained: these steps were added, and it is between rounds afterwards
  pub record DrainsPart (b : Bounds) (a : ℕ) (before after : List (Step N)) : Type 0 where
    pub part : List (Step N)
    pub is : after ≡ before ++ part
    pub drained : Drained a (run_of b before) (run_of b after)
    pub steps : plain part ≡ drained.steps
    pub quiet : NoEvents b a before after
    pub between : IsBetweenRounds (record_at (run_of b after) a)

-- the agents of these passes are n, n + 1 and so on
abbrev pub AreNumbered : {N W : Type 0} → (W → Seat N) → ℕ → List W → Type 0
AreNumbered seat n [] = Unit {0}
AreNumbered seat n (w ∷ ws) = ((seat w).agent ≡ n) × AreNumbered seat (suc n) ws

module _ {N W : Type 0} (seat : W → Seat N) (journal : W → List (Step N)) where
  -- a pass, which was v and is w, drained after it had learned of these steps, of which none of its agent was new to it
  pub record DrainsNext (b : Bounds) (steps : List (Step N)) (v w : W) : Type 0 where
    pub same : HoldsSame seat v w
    pub began : IsBetweenRounds (record_at (run_of b (journal v)) (seat v).agent)
    pub own : steps_of (seat v).agent steps ≡ steps_of (seat v).agent (journal v)
    pub drains : DrainsPart b (seat v).agent steps (journal w)

  -- passes, which were `before` and are `after`, drained one after another, each after it had learned from the one before it
  abbrev pub DrainInTurn : Bounds → List (Step N) → (before after : List W) → Type 0
  DrainInTurn b steps [] [] = Unit {0}
  DrainInTurn b steps (v ∷ vs) (w ∷ ws) = DrainsNext b steps v w × DrainInTurn b (journal w) vs ws
  DrainInTurn b steps [] (w ∷ ws) = ⊥
  DrainInTurn b steps (v ∷ vs) [] = ⊥
