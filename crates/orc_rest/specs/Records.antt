-- What the record of an agent that settles is like, from step to step.
use Rattle.std.specs.Prelude.{None, Option, Some, [], false, is_none, length, true, ◌*◌, ◌&&◌, ◌<◌, ◌^◌, ◌||◌, ◌≡◌, ◌≤◌, ◌⊎◌, ℕ}
use Rattle.orc_core.specs.Listed.{first_is}
use Rattle.orc_core.specs.RecordParts.{names, scan_found, scans, slot_of}
use Rattle.orc_core.specs.declared.records.Agent.{Agent}
use Rattle.orc_core.specs.declared.records.Doom.{Doom}
use Rattle.orc_core.specs.declared.records.Scan.{Scan}
use Rattle.orc_core.specs.declared.records.Reading.{Reading}
use Rattle.orc_core.specs.declared.records.SlotUse.TheVariants.{Empty}
use Rattle.orc_words.specs.Bounds.{Bounds}
use Rattle.orc_words.specs.Packed.{count_bits}

-- the agent has no retired row to see to: its work list is empty, and it has neither hand nor scan
pub record IsDone (d : Agent) : Type 0 where
  pub list : d.list.items ≡ []
  pub hand : d.hand ≡ None
  pub scan : d.scan ≡ None

-- enrolled; slots 1 to 7 are empty, there is no fresh row, and no increment is pending
pub record IsSettling (d : Agent) : Type 0 where
  pub enrolled : d.enrolled ≡ true
  pub slots : (k : ℕ) → 0 < k → slot_of d k ≡ Empty
  pub eight : length d.slots ≡ 8
  pub fresh : d.fresh ≡ None
  pub inc : d.inc ≡ None

-- slot 0 is empty too, and nothing is pending
pub record IsStill (d : Agent) : Type 0 where
  pub calm : IsSettling d
  pub zero : slot_of d 0 ≡ Empty
  pub dec : d.dec ≡ None
  pub due : d.due ≡ None

-- the hand, the scan and the doom stay
pub record SameTasks (d e : Agent) : Type 0 where
  pub hand : e.hand ≡ d.hand
  pub scan : e.scan ≡ d.scan
  pub doom : e.doom ≡ d.doom

-- a scan's place is at most the end of the slots
abbrev pub PlaceFits : Bounds → Option Scan → Type 0
PlaceFits b None = Unit {0}
PlaceFits b (Some s) = s.place ≤ 8 * b.agents

-- nothing is under way but a hand, or a scan that isn't found
pub record IsBetweenRounds (d : Agent) : Type 0 where
  pub still : IsStill d
  pub found : scan_found d.scan ≡ false
  pub doom : d.doom ≡ None

-- a due row is one of the table's, with a sequence of 40 bits
abbrev pub DueFits : Bounds → Option Reading → Type 0
DueFits b None = Unit {0}
DueFits b (Some s) = (s.row < b.rows) × (s.number < 2 ^ 40)

-- the doom is this row, with so many of its links out, and its bit still set
abbrev pub IsDoomOf : ℕ → ℕ → Option Doom → Type 0
IsDoomOf r cuts o = o ≡ Some (record { row = r; cuts = cuts; bare = false })

-- the scan is of this row, has come to this place, found nothing yet, and keeps count 0
pub record IsScanOf (r k : ℕ) (o : Option Scan) : Type 0 where
  pub word : ℕ
  pub is : o ≡ Some (record { row = r; word = word; place = k; found = false })
  pub empty : count_bits word ≡ 4194304

-- the scan is of this row, which the slot at this place names
pub record IsFoundScan (r k : ℕ) (o : Option Scan) : Type 0 where
  pub word : ℕ
  pub is : o ≡ Some (record { row = r; word = word; place = k; found = true })

-- the row is scanned, or a scan of it may begin
abbrev pub IsScannedNext : ℕ → Agent → Type 0
IsScannedNext r d = (scans d.scan r ≡ true) ⊎ ((d.scan ≡ None) × ((names d.hand r || (is_none d.hand && first_is d.list.items r)) ≡ true))
