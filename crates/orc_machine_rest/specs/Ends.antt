-- All passes of a board, of which one takes in all others.
use Rattle.std.specs.List.{AllByRecursion}
use Rattle.std.specs.Prelude.{All, List, [], ◌+◌, ◌∷◌, ◌≡◌, ℕ}
use mathlib.Core.List.{IsPrefix}
use Rattle.orc_any_domain.specs.declared.domain.RowCounts.{RowCounts}
use Rattle.orc_core.specs.Machine.{new_machine}
use Rattle.orc_machine_board.specs.Passes.{steps_of}
use Rattle.orc_machine_board.specs.Rules.{run_of}
use Rattle.orc_machine_board.specs.Views.{MachineView}
use Rattle.orc_rest.specs.Reuse.{given, reused, rows_out}
use Rattle.orc_shared_words.specs.Lists.{Among}
use Rattle.orc_sound.specs.Journals.{plain}
use Rattle.orc_sound.specs.declared.steps.Step.{Step}
use Rattle.orc_words.specs.Bounds.{Bounds}

module _ {N : Type 0} where
  -- in this journal, the steps of the pass's agent are exactly those that it has seen itself
  abbrev pub HasOwnSteps : List (Step N) → MachineView N → Type 0
  HasOwnSteps all s = steps_of s.agent all ≡ steps_of s.agent s.journal

  -- the counts are those of this journal
  pub record CountsOf (b : Bounds) (j : List (Step N)) (c : RowCounts) : Type 0 where
    pub given_is : c.given ≡ given (new_machine b) (plain j)
    pub reused_is : c.reused ≡ reused (plain j)
    pub linked_is : c.linked ≡ rows_out (run_of b j)
    pub balance : c.given ≡ c.reused + c.linked

  module _ {W : Type 0} (view : W → MachineView N) where
    -- what the first of these passes has seen
    abbrev pub first_journal : List W → List (Step N)
    first_journal [] = []
    first_journal (w ∷ ws) = (view w).journal

    -- in what the first pass has seen, the steps of each agent are exactly those that its own pass has seen
    abbrev pub FirstSawAll : List W → Type 0
    FirstSawAll ws = All (λ w. HasOwnSteps (first_journal ws) (view w)) ws

    -- a pass, which was s and is t, has taken in these passes; of their agents, of its own and of those that it had taken in before,
    -- it has seen no more steps than their passes had
    pub record TakesInSteps (s t : MachineView N) (ws : List W) : Type 0 where
      pub agent : t.agent ≡ s.agent
      pub record_is : t.record_is ≡ s.record_is
      pub more : IsPrefix s.journal t.journal
      pub own : steps_of s.agent t.journal ≡ steps_of s.agent s.journal
      pub before : (a : ℕ) → Among a s.absorbed → Among a t.absorbed × (steps_of a t.journal ≡ steps_of a s.journal)
      pub taken : AllByRecursion (λ w. Among (view w).agent t.absorbed × HasOwnSteps t.journal (view w)) ws
