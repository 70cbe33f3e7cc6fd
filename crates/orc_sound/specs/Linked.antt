-- Links and holds. These definitions are this project's own, for this machine.
use Rattle.std.specs.Prelude.{Bool, false, pos, true, ℕ, ◌&&◌, ◌+◌, ◌<◌, ◌||◌, ◌≡◌}
use Rattle.orc_words.specs.Packed.{counter_of}
use Rattle.orc_words.specs.Places.{link_at}
use Rattle.orc_words.specs.declared.place.Word.TheVariants.{Counter, Root}
use Rattle.orc_core.specs.Counts.{is_out, links_to}
use Rattle.orc_core.specs.Machine.{Machine, record_at, word_in}
use Rattle.orc_core.specs.RecordParts.{any_holds, names, saw}
use Rattle.orc_core.specs.Sums.{count_below, some_below, sum_below}
use Rattle.orc_core.specs.declared.records.Agent.{Agent}

-- the row is one of the table's, and out
abbrev pub IsOut : Machine → ℕ → Type 0
IsOut m r = (r < m.bounds.rows) × (is_out m r ≡ true)

-- how many of row j's links have row r as their target, if row j is out
abbrev pub linked_from : Machine → ℕ → ℕ → ℕ
linked_from m r j = count_below m.bounds.links (λ n. is_out m j && links_to (word_in m (link_at n j)) r)

-- how many link words, of the roots and of the rows that are out, have the row as their target
abbrev pub linked : Machine → ℕ → ℕ
linked m r = count_below m.bounds.roots (λ i. links_to (word_in m (Root i)) r) + sum_below m.bounds.rows (linked_from m r)

-- the agent holds the row in one of its slots
abbrev pub holds_row : Machine → ℕ → ℕ → Bool
holds_row m a r = any_holds (record_at m a).slots r

-- the record holds the row, has it fresh, or has a change of it pending
abbrev pub uses : Agent → ℕ → Bool
uses d r = any_holds d.slots r || names d.fresh r || names d.inc r || names d.dec r || saw d.due r

-- some agent holds the row
abbrev pub held : Machine → ℕ → Bool
held m r = some_below m.bounds.agents (λ a. holds_row m a r)

-- the record has an increment or a decrement of the row pending, or has it due
abbrev pub changes : Agent → ℕ → Bool
changes d r = names d.inc r || names d.dec r || saw d.due r

-- nothing links the row, nobody holds it, no change of it is pending or due, and its count is 0
pub record IsUnreachable (m : Machine) (r : ℕ) : Type 0 where
  pub linked : linked m r ≡ 0
  pub held : held m r ≡ false
  pub changes : some_below m.bounds.agents (λ a. changes (record_at m a) r) ≡ false
  pub count : (counter_of (word_in m (Counter r))).count ≡ pos 0
