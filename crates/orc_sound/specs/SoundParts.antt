-- The parts of a sound state on enrolment, slots, link targets, fresh rows, scans, looks and ranges.
use Rattle.std.specs.Prelude.{false, negsuc, pos, true, ℕ, ◌*◌, ◌+◌, ◌/◌, ◌<◌, ◌^◌, ◌≡◌, ◌≢◌, ◌≤ℤ◌, ◌≤◌}
use Rattle.orc_words.specs.Packed.{count_bits, counter_of, retired_bit, sequence_of}
use Rattle.orc_words.specs.declared.place.Word.TheVariants.{Counter, Enrolled, Gate, Root, Slot}
use Rattle.orc_core.specs.Counts.{is_retired, links_to}
use Rattle.orc_core.specs.Machine.{Machine, nobody, record_at, word_in}
use Rattle.orc_core.specs.RecordParts.{is_published, kept, names, number_of, saw, scan_at, scan_empty, scan_found, scans, slot_of}
use Rattle.orc_core.specs.declared.records.SlotUse.{SlotUse}
use Rattle.orc_core.specs.declared.records.SlotUse.TheVariants.{Empty, Held, Published}
use Rattle.orc_sound.specs.Linked.{IsOut, holds_row, uses}
use Rattle.orc_words.specs.Places.{link_at}

-- the agents below the word of enrolments are enrolled, and the other records are empty
pub record Enrolment (m : Machine) : Type 0 where
  pub most : word_in m Enrolled ≤ m.bounds.agents
  pub enrolled : (a : ℕ) → a < word_in m Enrolled → (record_at m a).enrolled ≡ true
  pub others : (a : ℕ) → word_in m Enrolled ≤ a → record_at m a ≡ nobody m.bounds.rows

-- the word of a slot that is used so: 0 for an empty one, else the row + 1
abbrev pub slot_word : SlotUse → ℕ
slot_word Empty = 0
slot_word (Published r) = r + 1
slot_word (Held r) = r + 1

-- the slot words are those of the records, slot 0 is never Published, and held rows are out
pub record SlotsAreRecords (m : Machine) : Type 0 where
  pub words : (a k : ℕ) → a < m.bounds.agents → k < 8 → word_in m (Slot a k) ≡ slot_word (slot_of (record_at m a) k)
  pub first : (a : ℕ) → a < m.bounds.agents → is_published (slot_of (record_at m a) 0) ≡ false
  pub held : (a r : ℕ) → a < m.bounds.agents → holds_row m a r ≡ true → IsOut m r

-- the target of a root, and of a link word of a row that is out, is out
pub record Targets (m : Machine) : Type 0 where
  pub roots : (i r : ℕ) → i < m.bounds.roots → links_to (word_in m (Root i)) r ≡ true → IsOut m r
  pub links : (n j r : ℕ) → n < m.bounds.links → IsOut m j → links_to (word_in m (link_at n j)) r ≡ true → IsOut m r

-- a fresh row is out and has no bit, no other agent uses it, and no link word but its own names it
pub record FreshRows (m : Machine) : Type 0 where
  pub out : (a r : ℕ) → a < m.bounds.agents → names (record_at m a).fresh r ≡ true → IsOut m r
  pub clear : (a r : ℕ) → a < m.bounds.agents → names (record_at m a).fresh r ≡ true → is_retired m r ≡ false
  pub alone : (a x r : ℕ) → a < m.bounds.agents → x < m.bounds.agents → x ≢ a → names (record_at m a).fresh r ≡ true → uses (record_at m x) r ≡ false
  pub roots : (a i r : ℕ) → a < m.bounds.agents → i < m.bounds.roots → names (record_at m a).fresh r ≡ true → links_to (word_in m (Root i)) r ≡ false
  pub links : (a n j r : ℕ) → a < m.bounds.agents → n < m.bounds.links → j < m.bounds.rows → j ≢ r → names (record_at m a).fresh r ≡ true
      → links_to (word_in m (link_at n j)) r ≡ false

-- a scanned row is one of the table's. The scan's kept word has the bit and isn't ahead of the row's word; with equal sequences their counts are equal. A scan
-- that found its row keeps count 0, and its place is before the end
pub record Scans (m : Machine) : Type 0 where
  pub row : (a r : ℕ) → a < m.bounds.agents → scans (record_at m a).scan r ≡ true → r < m.bounds.rows
  pub set : (a r : ℕ) → a < m.bounds.agents → scans (record_at m a).scan r ≡ true → retired_bit (kept (record_at m a).scan) ≡ 1
  pub behind : (a r : ℕ) → a < m.bounds.agents → scans (record_at m a).scan r ≡ true
      → sequence_of (kept (record_at m a).scan) ≤ sequence_of (word_in m (Counter r))
  pub count : (a r : ℕ) → a < m.bounds.agents → scans (record_at m a).scan r ≡ true
      → sequence_of (word_in m (Counter r)) ≡ sequence_of (kept (record_at m a).scan)
      → count_bits (word_in m (Counter r)) ≡ count_bits (kept (record_at m a).scan)
  pub found : (a : ℕ) → a < m.bounds.agents → scan_found (record_at m a).scan ≡ true → scan_empty (record_at m a).scan ≡ true
  pub place : (a k : ℕ) → a < m.bounds.agents → scan_found (record_at m a).scan ≡ true → scan_at (record_at m a).scan k ≡ true → k < 8 * m.bounds.agents

-- an agent that looked at a row and then checked it knows the row's sequence, as long as the row is free in that life
abbrev pub LooksAreKnown : Machine → Type 0
LooksAreKnown m =
    (a r : ℕ) → a < m.bounds.agents → r < m.bounds.rows → saw (record_at m a).looked r ≡ true → saw (record_at m a).checked r ≡ true
    → word_in m (Gate r) ≡ 2 * number_of (record_at m a).looked → sequence_of (word_in m (Counter r)) ≡ number_of (record_at m a).checked

-- no number of a row comes near the end of its bits
pub record Ranges (m : Machine) : Type 0 where
  pub sequence : (r : ℕ) → r < m.bounds.rows → sequence_of (word_in m (Counter r)) < 2 ^ 39 + 2 ^ 19
  pub life : (r : ℕ) → r < m.bounds.rows → word_in m (Gate r) / 2 ≤ 2 ^ 39
  pub count : (r : ℕ) → r < m.bounds.rows → (negsuc 4194303 ≤ℤ (counter_of (word_in m (Counter r))).count)
      × ((counter_of (word_in m (Counter r))).count ≤ℤ pos 4194303)
