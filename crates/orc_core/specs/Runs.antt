-- A run of the machine: steps made one after another, each an agent's number and an op.
use Rattle.std.specs.Prelude.{◌≡◌, ℕ, true, List, [], ◌∷◌}
use Rattle.orc_core.specs.declared.ops.Op.{Op}
use Rattle.orc_core.specs.Machine.{Machine, is_allowed, step}

-- the state after these steps
abbrev pub run : Machine → List (ℕ × Op) → Machine
run m [] = m
run m (s ∷ ss) = run (step m s.0 s.1) ss

-- each step is allowed where it stands
abbrev pub IsLawful : Machine → List (ℕ × Op) → Type 0
IsLawful m [] = Unit {0}
IsLawful m (s ∷ ss) = (is_allowed m s.0 s.1 ≡ true) × IsLawful (step m s.0 s.1) ss
