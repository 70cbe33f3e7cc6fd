-- What the parts of a settling add to what its pass has seen.
use Rattle.std.specs.Prelude.{List, [], ℕ, ◌++◌, ◌∷◌, ◌≡◌}
use Rattle.orc_machine_rest.specs.OwnSteps.{TakesInCleared, ops_of}
use Rattle.orc_core.specs.declared.ops.Op.{Op}
use Rattle.orc_heap.specs.Allowed.{events_by}
use Rattle.orc_heap.specs.declared.events.Event.{Event}
use Rattle.orc_machine_board.specs.Rules.{run_of}
use Rattle.orc_machine_board.specs.Views.{MachineView}
use Rattle.orc_projection.specs.Projection.{project}
use Rattle.orc_rest.specs.Rounds.{OpenedTurn, Rounds, Settled, Went}
use Rattle.orc_sound.specs.Journals.{plain}
use Rattle.orc_sound.specs.declared.steps.Step.{Step}
use Rattle.orc_words.specs.Bounds.{Bounds}

module _ {N : Type 0} where
  -- no event of the agent is new
  pub record NoEvents (b : Bounds) (a : ℕ) (before after : List (Step N)) : Type 0 where
    pub events : List (Event N)
    pub is : project b after ≡ project b before ++ events
    pub own : events_by a events ≡ []

  -- the pass has seen these steps, too. No event in them is the agent's, and it took in what was handed over beside each slot that
  -- it cleared
  pub record SawSteps (b : Bounds) (a : ℕ) (steps : List (ℕ × Op)) (s t : MachineView N) : Type 0 where
    pub part : List (Step N)
    pub journal : t.journal ≡ s.journal ++ part
    pub steps_are : plain part ≡ steps
    pub quiet : NoEvents b a s.journal t.journal
    pub taken_in : TakesInCleared (ops_of a part)

  -- a turn of the agent
  pub record Goes (b : Bounds) (a drop : ℕ) (s t : MachineView N) : Type 0 where
    pub went : Went a drop (run_of b s.journal) (run_of b t.journal)
    pub adds : SawSteps b a went.turn.steps s t

  -- a turn of the agent, with its first step
  pub record OpensTurn (b : Bounds) (a drop : ℕ) (s t : MachineView N) : Type 0 where
    pub opened : OpenedTurn a drop (run_of b s.journal) (run_of b t.journal)
    pub adds : SawSteps b a ((opened.made.others ++ (a, opened.op) ∷ []) ++ opened.went.turn.steps) s t

  -- at most so many rounds of the agent
  pub record MakesRounds (b : Bounds) (a left : ℕ) (s t : MachineView N) : Type 0 where
    pub rounds : Rounds a left (run_of b s.journal) (run_of b t.journal)
    pub adds : SawSteps b a rounds.steps s t

  -- as many rounds of the agent as it takes, if no other agent has a step in them
  pub record Settles (b : Bounds) (a : ℕ) (s t : MachineView N) : Type 0 where
    pub settled : Settled a (run_of b s.journal) (run_of b t.journal)
    pub adds : SawSteps b a settled.steps s t
