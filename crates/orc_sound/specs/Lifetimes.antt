-- How often a row is taken and freed in a list of steps.
use Rattle.std.specs.Prelude.{Bool, List, [], false, ℕ, ◌&&◌, ◌+◌, ◌<◌, ◌==◌, ◌^◌, ◌∷◌, ◌≤◌}
use Rattle.orc_words.specs.Packed.{bit}
use Rattle.orc_core.specs.Machine.{Machine, answer, step}
use Rattle.orc_words.specs.declared.operation.Operation.{Operation}
use Rattle.orc_words.specs.declared.operation.Operation.TheVariants.{Add, Sub}
use Rattle.orc_core.specs.declared.ops.Op.{Op}
use Rattle.orc_core.specs.declared.ops.Op.TheVariants.{Free, GateTake}

-- the step is a GateTake of the row
abbrev pub is_take_of : Op → ℕ → Bool
is_take_of (GateTake q) r = q == r
is_take_of _ r = false

-- the step is a Free of the row
abbrev pub frees : Op → ℕ → Bool
frees (Free q) r = q == r
frees _ r = false

-- the GateTakes of the row that succeed, in a run from this state
abbrev pub times_taken : Machine → List (ℕ × Op) → ℕ → ℕ
times_taken m [] r = 0
times_taken m (s ∷ ss) r = bit (is_take_of s.1 r && (answer m s.0 s.1 == 1)) + times_taken (step m s.0 s.1) ss r

-- the Free steps of the row
abbrev pub times_freed : List (ℕ × Op) → ℕ → ℕ
times_freed [] r = 0
times_freed (s ∷ ss) r = bit (frees s.1 r) + times_freed ss r

-- the sum or difference that an operation makes of a word stays within 64 bits
abbrev pub NoWrap : Operation → ℕ → Type 0
NoWrap (Add v) w = w + v < 2 ^ 64
NoWrap (Sub v) w = v ≤ w
NoWrap _ w = Unit {0}
