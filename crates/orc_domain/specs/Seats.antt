-- What a pass shows to the callers of a domain, by its agent's record and the present nodes of the rows in it.
use Rattle.std.specs.Option.{option_map}
use Rattle.std.specs.Prelude.{List, None, Option, Some, false, length, map, slice_set, true, ℕ, ◌≡◌}
use Rattle.orc_core.specs.RecordParts.{is_published, scan_found, slot_of}
use Rattle.orc_core.specs.declared.records.Agent.{Agent}
use Rattle.orc_core.specs.declared.records.SlotUse.{SlotUse}
use Rattle.orc_core.specs.declared.records.SlotUse.TheVariants.{Empty, Held, Published}
use Rattle.orc_heap.specs.OwnEvents.{Puts}
use Rattle.orc_heap.specs.Seats.{Seat}
use Rattle.orc_heap.specs.Slots.{SlotNode, Slots}
use Rattle.orc_heap.specs.declared.events.Event.{Event}
use Rattle.orc_machine_board.specs.Licences.{events_seen, ids_of}
use Rattle.orc_machine_board.specs.Views.{MachineView}
use Rattle.orc_projection.specs.PresentIds.{PresentIds}
use Rattle.orc_words.specs.Bounds.{Bounds}

-- a slot, with the node that lies in the row that it holds
abbrev pub slot_by : PresentIds → SlotUse → Option SlotNode
slot_by p Empty = None
slot_by p (Published r) = None
slot_by p (Held r) = Some (record { row = r; id = p.node r })

-- all slots of a record
abbrev pub slots_by : PresentIds → Agent → Slots
slots_by p d = map (slot_by p) d.slots

-- what the pass shows, read off its record
abbrev pub seat_by : {N : Type 0} → Bounds → MachineView N → Seat N
seat_by b s = record {
  agent = s.agent;
  seen = events_seen b s;
  slots = slots_by (ids_of b s) s.record_is;
  fresh = option_map (ids_of b s).node s.record_is.fresh;
}

-- the record of a pass between calls: no change is pending, no slot only names its row, slot 0 is empty, no row is to be freed,
-- and no scan has found its row
pub record IsBetweenCalls (d : Agent) : Type 0 where
  pub enrolled : d.enrolled ≡ true
  pub eight : length d.slots ≡ 8
  pub due : d.due ≡ None
  pub inc : d.inc ≡ None
  pub dec : d.dec ≡ None
  pub zero : slot_of d 0 ≡ Empty
  pub published : (k : ℕ) → is_published (slot_of d k) ≡ false
  pub doom : d.doom ≡ None
  pub found : scan_found d.scan ≡ false

-- no change is pending, so that a step of any kind may come next
pub record IsCalm (d : Agent) : Type 0 where
  pub enrolled : d.enrolled ≡ true
  pub due : d.due ≡ None
  pub inc : d.inc ≡ None
  pub dec : d.dec ≡ None

-- the slot has this node now, or none, and nothing else has changed but what was seen
pub record SetsSlot {N : Type 0} (own : List (Event N)) (slot : ℕ) (node : Option SlotNode) (s t : Seat N) : Type 0 where
  pub slots : t.slots ≡ slice_set s.slots slot node
  pub fresh : t.fresh ≡ s.fresh
  pub puts : Puts s own t
