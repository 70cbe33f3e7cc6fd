-- What a pass that takes in and settles, and the parts of a drain, add to what it has seen.
use Rattle.std.specs.Prelude.{[], ◌++◌, ◌∷◌, ℕ}
use Rattle.orc_machine_rest.specs.Parts.{SawSteps, Settles}
use Rattle.orc_core.specs.declared.ops.Op.TheVariants.{TakeIn}
use Rattle.orc_rest.specs.Drains.{Drained, TookIn}
use Rattle.orc_machine_board.specs.Rules.{run_of}
use Rattle.orc_machine_board.specs.Views.{MachineView}
use Rattle.orc_rest.specs.Turns.{MadeAfterOthers}
use Rattle.orc_words.specs.Bounds.{Bounds}

module _ {N : Type 0} where
  -- the agent took in what was handed over beside one slot
  pub record TakesInOne (b : Bounds) (a k : ℕ) (s t : MachineView N) : Type 0 where
    pub made : MadeAfterOthers a (TakeIn k) (run_of b s.journal) (run_of b t.journal)
    pub adds : SawSteps b a (made.others ++ (a, TakeIn k) ∷ []) s t

  -- and beside each slot from this one on
  pub record TakesInFrom (b : Bounds) (a k : ℕ) (s t : MachineView N) : Type 0 where
    pub took : TookIn a k (run_of b s.journal) (run_of b t.journal)
    pub adds : SawSteps b a took.steps s t

  -- the agent took in what was handed over beside slot 0, and settled
  pub record TakesInAndSettles (b : Bounds) (a : ℕ) (s t : MachineView N) : Type 0 where
    pub between : MachineView N
    pub takes : TakesInOne b a 0 s between
    pub settles : Settles b a between t

  -- the agent drained
  pub record Drains (b : Bounds) (a : ℕ) (s t : MachineView N) : Type 0 where
    pub drained : Drained a (run_of b s.journal) (run_of b t.journal)
    pub adds : SawSteps b a drained.steps s t
