-- The rows that an agent may name: those that it holds, and its fresh row.
use Rattle.std.specs.Prelude.{None, Option, Some, true, ℕ, ◌||◌, ◌≡◌}
use Rattle.orc_core.specs.RecordParts.{any_holds, names}
use Rattle.orc_core.specs.declared.records.Agent.{Agent}
use Rattle.orc_words.specs.declared.place.Word.{Word}
use Rattle.orc_words.specs.declared.place.Word.TheVariants.{Next, Side}

-- the agent holds the row, or it is its fresh row
abbrev pub HasRow : Agent → ℕ → Type 0
HasRow d r = (any_holds d.slots r || names d.fresh r) ≡ true

-- null, or such a row
abbrev pub HasTarget : Agent → Option ℕ → Type 0
HasTarget d None = Unit {0}
HasTarget d (Some r) = HasRow d r

-- the place of a root, or of a link of such a row
abbrev pub HasPlace : Agent → Word → Type 0
HasPlace d (Next r) = HasRow d r
HasPlace d (Side r) = HasRow d r
HasPlace d word = Unit {0}
