-- How many rows a list of steps gave and freed, and how many are out after it.
use Rattle.std.specs.Prelude.{Bool, List, [], false, true, ℕ, ◌&&◌, ◌+◌, ◌==◌, ◌∷◌}
use Rattle.orc_words.specs.Packed.{bit}
use Rattle.orc_core.specs.Counts.{is_out}
use Rattle.orc_core.specs.Machine.{Machine, answer, step}
use Rattle.orc_core.specs.Sums.{count_below}
use Rattle.orc_core.specs.declared.ops.Op.{Op}
use Rattle.orc_core.specs.declared.ops.Op.TheVariants.{Free, GateTake}

-- the step is a GateTake
abbrev pub is_gate_take : Op → Bool
is_gate_take (GateTake r) = true
is_gate_take _ = false

-- the step is a Free
abbrev pub is_free_step : Op → Bool
is_free_step (Free r) = true
is_free_step _ = false

-- the GateTakes that succeed, in a run from this state
abbrev pub given : Machine → List (ℕ × Op) → ℕ
given m [] = 0
given m (s ∷ ss) = bit (is_gate_take s.1 && (answer m s.0 s.1 == 1)) + given (step m s.0 s.1) ss

-- the Free steps
abbrev pub reused : List (ℕ × Op) → ℕ
reused [] = 0
reused (s ∷ ss) = bit (is_free_step s.1) + reused ss

-- the rows that are out
abbrev pub rows_out : Machine → ℕ
rows_out m = count_below m.bounds.rows (is_out m)
