-- An agent that is stopped, and holds one node or none.
use Rattle.std.specs.Prelude.{None, Option, Some, replicate, slice_set, ◌≡◌}
use Rattle.orc_cell.specs.CellCalls.{IsUsable, StagesPart}
use Rattle.orc_heap.specs.Slots.{Hold, Holds, Slots}
use Rattle.orc_heap.specs.declared.links.Links.{Ghosts as LinksOf}
use Rattle.orc_pairs_rule.specs.declared.pairs.PairsNote.{PairsNote}

-- the slots hold this alone
abbrev pub HoldsOnly : Option Hold → Slots → Type 0
HoldsOnly None slots = slots ≡ replicate 8 None
HoldsOnly (Some h) slots = Holds slots h × (slice_set slots h.slot None ≡ replicate 8 None)

-- the pass is one of the domain, and holds this alone
pub record IsStopped {L D P S N : Type 0} (members : LinksOf L D P S N) (links : L) (held : Option Hold) (p : P) : Type 0 where
  pub belongs : members.belongs links p
  pub fresh : (members.seat links p).fresh ≡ None
  pub slots : HoldsOnly held (members.seat links p).slots

-- the pass of a stopped agent of a cell: it has staged this part, or nothing
abbrev pub StoppedAtCell : {L D P S : Type 0} → LinksOf L D P S PairsNote → L → Option Hold → P → Type 0
StoppedAtCell members links None p = IsUsable members links p
StoppedAtCell members links (Some h) p = StagesPart members links h p
