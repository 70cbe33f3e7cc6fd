-- Rows that are to be freed, and rows that are free.
use Rattle.std.specs.Prelude.{Bool, None, Option, Some, false, nat_lt, true, ℕ, ◌&&◌, ◌<◌, ◌==◌, ◌≡◌}
use Rattle.orc_words.specs.Places.{link_at}
use Rattle.orc_core.specs.Counts.{is_out, is_retired}
use Rattle.orc_core.specs.Machine.{Machine, record_at, word_in}
use Rattle.orc_core.specs.RecordParts.{doom_bare}
use Rattle.orc_core.specs.declared.records.Doom.{Doom}
use Rattle.orc_sound.specs.Linked.{IsOut, IsUnreachable}

-- the doom is the row
abbrev pub dooms : Option Doom → ℕ → Bool
dooms None r = false
dooms (Some d) r = d.row == r

-- the doom is the row, with all its links out
abbrev pub dooms_cut : ℕ → Option Doom → ℕ → Bool
dooms_cut links None r = false
dooms_cut links (Some d) r = (d.row == r) && (d.cuts == links)

-- the doom is the row, with the link of this number out
abbrev pub cuts_past : Option Doom → ℕ → ℕ → Bool
cuts_past None r n = false
cuts_past (Some d) r n = (d.row == r) && nat_lt n d.cuts

-- a doomed row is out and can't be reached, and is in one doom only; its link words that were cut are
-- 0; if bare, all are cut and its bit is clear
pub record DoomedRows (m : Machine) : Type 0 where
  pub out : (a r : ℕ) → a < m.bounds.agents → dooms (record_at m a).doom r ≡ true → IsOut m r
  pub unreachable : (a r : ℕ) → a < m.bounds.agents → dooms (record_at m a).doom r ≡ true → IsUnreachable m r
  pub alone : (a x r : ℕ) → a < m.bounds.agents → x < m.bounds.agents → dooms (record_at m a).doom r ≡ true → dooms (record_at m x).doom r ≡ true → x ≡ a
  pub null : (a r n : ℕ) → a < m.bounds.agents → n < m.bounds.links → cuts_past (record_at m a).doom r n ≡ true → word_in m (link_at n r) ≡ 0
  pub bare : (a r : ℕ) → a < m.bounds.agents → doom_bare (record_at m a).doom r ≡ true → (dooms_cut m.bounds.links (record_at m a).doom r ≡ true) × (is_retired m r ≡ false)

-- a free row can't be reached, has no bit, its link words are 0, and it is in no doom
pub record FreeRows (m : Machine) : Type 0 where
  pub unreachable : (r : ℕ) → r < m.bounds.rows → is_out m r ≡ false → IsUnreachable m r
  pub clear : (r : ℕ) → r < m.bounds.rows → is_out m r ≡ false → is_retired m r ≡ false
  pub null : (r n : ℕ) → r < m.bounds.rows → n < m.bounds.links → is_out m r ≡ false → word_in m (link_at n r) ≡ 0
  pub undoomed : (a r : ℕ) → a < m.bounds.agents → r < m.bounds.rows → is_out m r ≡ false → dooms (record_at m a).doom r ≡ false
