-- What a caller asks for, and why nothing was made of it.
use Rattle.std.specs.Prelude.{ℕ, ◌^◌}
use Rattle.orc_words.specs.Bounds.{Bounds, IsFirstFault}
use Rattle.orc_containers.specs.declared.unmade.Unmade.{Unmade}
use Rattle.orc_containers.specs.declared.unmade.Unmade.TheVariants as unmade

-- so many rows with so many links each, so many roots and agents, and the highest limit
abbrev pub asked : ℕ → ℕ → ℕ → ℕ → Bounds
asked rows links roots agents = record { rows = rows; roots = roots; agents = agents; limit = 2 ^ 39; links = links }

-- the first of these numbers that is out of range, or want of memory
abbrev pub IsCauseOf : Bounds → Unmade → Type 0
IsCauseOf b (unmade.Shape fault) = IsFirstFault b fault
IsCauseOf b unmade.NoMemory = Unit {0}
