-- The count of a row's counter word, and the links to that row. After OrcGC (Correia, Ramalhete and Felber 2021),
-- where a link is changed first and counted after.
use Rattle.std.specs.Prelude.{pos, true, ℕ, ◌+ℤ◌, ◌-ℤ◌, ◌<◌, ◌||◌, ◌≡◌}
use Rattle.orc_words.specs.Packed.{counter_of}
use Rattle.orc_words.specs.declared.place.Word.TheVariants.{Counter}
use Rattle.orc_core.specs.Machine.{Machine, record_at, word_in}
use Rattle.orc_core.specs.RecordParts.{names, saw}
use Rattle.orc_core.specs.Sums.{count_below}
use Rattle.orc_sound.specs.Linked.{IsOut, changes, holds_row, linked}

-- how many agents have an increment of the row pending
abbrev pub increments : Machine → ℕ → ℕ
increments m r = count_below m.bounds.agents (λ a. names (record_at m a).inc r)

-- how many agents have a decrement of the row pending
abbrev pub decrements : Machine → ℕ → ℕ
decrements m r = count_below m.bounds.agents (λ a. names (record_at m a).dec r)

-- counts, links and pending changes agree
pub record Balance (m : Machine) : Type 0 where
  -- the count is the links to the row, less the pending increments, with the pending decrements
  pub count : (r : ℕ) → r < m.bounds.rows → (counter_of (word_in m (Counter r))).count ≡ (pos (linked m r) -ℤ pos (increments m r)) +ℤ pos (decrements m r)
  -- who has an increment of a row pending, or has it due, holds it
  pub held : (a r : ℕ) → a < m.bounds.agents → (names (record_at m a).inc r || saw (record_at m a).due r) ≡ true → holds_row m a r ≡ true
  -- a row of which a change is pending, or that is due, is out
  pub out : (a r : ℕ) → a < m.bounds.agents → changes (record_at m a) r ≡ true → IsOut m r
