-- What one part of an agent's record says.
use Rattle.std.specs.Prelude.{ℕ, ◌==◌, ◌&&◌, not, nat_lt, Bool, true, false, Option, Some, None, List, slice_index_or}
use Rattle.std.specs.List.{list_any}
use Rattle.orc_words.specs.Packed.{count_bits, retired_bit}
use Rattle.orc_core.specs.declared.records.Agent.{Agent}
use Rattle.orc_core.specs.declared.records.Reading.{Reading}
use Rattle.orc_core.specs.declared.records.Scan.{Scan}
use Rattle.orc_core.specs.declared.records.Doom.{Doom}
use Rattle.orc_core.specs.declared.records.SlotUse.{SlotUse}
use Rattle.orc_core.specs.declared.records.SlotUse.TheVariants.{Empty, Published, Held}

-- this row is named
abbrev pub names : Option ℕ → ℕ → Bool
names None r = false
names (Some q) r = q == r

-- both name one row, or neither names any
abbrev pub same_target : Option ℕ → Option ℕ → Bool
same_target None None = true
same_target None (Some r) = false
same_target (Some q) None = false
same_target (Some q) (Some r) = q == r

-- the life or sequence that was seen; 0 where none was
abbrev pub number_of : Option Reading → ℕ
number_of None = 0
number_of (Some s) = s.number

-- the row was read
abbrev pub saw : Option Reading → ℕ → Bool
saw None r = false
saw (Some s) r = s.row == r

-- the row was seen with a number below n
abbrev pub checked_below : Option Reading → ℕ → ℕ → Bool
checked_below None r n = false
checked_below (Some s) r n = (s.row == r) && nat_lt s.number n

-- the row is due, at this sequence
abbrev pub is_due : Option Reading → ℕ → ℕ → Bool
is_due None r q = false
is_due (Some s) r q = (s.row == r) && (s.number == q)

-- a counter word with count 0 and no retired bit
abbrev pub is_clear : ℕ → Bool
is_clear w = (count_bits w == 4194304) && (retired_bit w == 0)

-- the slot holds the row
abbrev pub holds : SlotUse → ℕ → Bool
holds Empty r = false
holds (Published q) r = false
holds (Held q) r = q == r

-- the slot names no row
abbrev pub is_empty : SlotUse → Bool
is_empty Empty = true
is_empty (Published q) = false
is_empty (Held q) = false

-- the slot names a row that isn't known to be linked
abbrev pub is_published : SlotUse → Bool
is_published Empty = false
is_published (Published q) = true
is_published (Held q) = false

-- some slot holds the row
abbrev pub any_holds : List SlotUse → ℕ → Bool
any_holds slots r = list_any (λ s. holds s r) slots

-- the slot holds the fresh row
abbrev pub holds_fresh : Option ℕ → SlotUse → Bool
holds_fresh None s = false
holds_fresh (Some r) s = holds s r

-- the agent's slot; Empty for a number above 7
abbrev pub slot_of : Agent → ℕ → SlotUse
slot_of d k = slice_index_or d.slots k Empty

-- the row that is scanned; 0 where none is
abbrev pub scanned : Option Scan → ℕ
scanned None = 0
scanned (Some s) = s.row

-- the counter word that the scan keeps
abbrev pub kept : Option Scan → ℕ
kept None = 0
kept (Some s) = s.word

-- the row is being scanned
abbrev pub scans : Option Scan → ℕ → Bool
scans None r = false
scans (Some s) r = s.row == r

-- the count in the scan's kept word is 0
abbrev pub scan_empty : Option Scan → Bool
scan_empty None = false
scan_empty (Some s) = count_bits s.word == 4194304

-- the scan found its row in a slot
abbrev pub scan_found : Option Scan → Bool
scan_found None = false
scan_found (Some s) = s.found

-- the scan has come to this place
abbrev pub scan_at : Option Scan → ℕ → Bool
scan_at None k = false
scan_at (Some s) k = s.place == k

-- the doom is the row, and the link of this number is the next one to be taken out
abbrev pub doom_at : Option Doom → ℕ → ℕ → Bool
doom_at None r n = false
doom_at (Some d) r n = (d.row == r) && (d.cuts == n)

-- the doom is the row, with all its links out and its bit still set
abbrev pub doom_cut : ℕ → Option Doom → ℕ → Bool
doom_cut links None r = false
doom_cut links (Some d) r = (d.row == r) && (d.cuts == links) && not d.bare

-- the doom is the row, with its bit clear
abbrev pub doom_bare : Option Doom → ℕ → Bool
doom_bare None r = false
doom_bare (Some d) r = (d.row == r) && d.bare
