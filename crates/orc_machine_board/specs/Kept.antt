-- What of its agent's record a pass keeps: the parts that an action or a call looks at.
use Rattle.std.specs.Prelude.{Bool, List, Option, false, map, ◌≡◌, ℕ}
use Rattle.orc_core.specs.Listed.{Listed}
use Rattle.orc_core.specs.RecordParts.{is_empty, slot_of}
use Rattle.orc_core.specs.declared.ops.Op.{Op}
use Rattle.orc_core.specs.declared.ops.Op.TheVariants.{MoveOn}
use Rattle.orc_core.specs.declared.records.Agent.{Agent}
use Rattle.orc_core.specs.declared.records.Reading.{Reading}
use Rattle.orc_core.specs.declared.records.Scan.{Scan}

-- which slots are empty, the fresh row, the life that was looked at, the row in hand, the scan and the work list
pub record Kept : Type 0 where
  pub empty : List Bool
  pub fresh : Option ℕ
  pub looked : Option Reading
  pub hand : Option ℕ
  pub scan : Option Scan
  pub list : Listed

abbrev pub kept_of : Agent → Kept
kept_of d = record {
  empty = map is_empty d.slots;
  fresh = d.fresh;
  looked = d.looked;
  hand = d.hand;
  scan = d.scan;
  list = d.list;
}

-- a slot that moves on names a row already, so that what is kept of it stays
abbrev pub IsInUse : Op → Agent → Type 0
IsInUse (MoveOn k r) d = is_empty (slot_of d k) ≡ false
IsInUse _ d = Unit {0}
