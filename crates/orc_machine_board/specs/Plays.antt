-- Steps of one agent, played on a state.
use Rattle.std.specs.Prelude.{List, [], ℕ, ◌++◌, ◌∷◌, ◌≡◌}
use Rattle.orc_core.specs.Machine.{Machine, new_machine}
use Rattle.orc_core.specs.Runs.{IsLawful, run}
use Rattle.orc_core.specs.declared.ops.Op.{Op}
use Rattle.orc_words.specs.Bounds.{Bounds, IsShape}

-- these ops, each of this agent
abbrev pub by_agent : ℕ → List Op → List (ℕ × Op)
by_agent a [] = []
by_agent a (op ∷ ops) = (a, op) ∷ by_agent a ops

-- the state is one that steps left, and these steps go on lawfully from there
pub record PlaysOn (b : Bounds) (m : Machine) (steps : List (ℕ × Op)) : Type 0 where
  pub shape : IsShape b
  pub before : List (ℕ × Op)
  pub is : m ≡ run (new_machine b) before
  pub lawful : IsLawful (new_machine b) (before ++ steps)
