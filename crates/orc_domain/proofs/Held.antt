-- What a pass holds: its rows are out and known, and what a caller names by them.
use Rattle.std.proofs.Common.{List, Some, ap, arith, refl, subst, sym, true, ℕ, ◌<◌, ◌≡◌}
use Rattle.std.proofs.lemmas.Bool.{lt-ltb}
use Rattle.std.specs.Prelude.{map, slice_get, ◌&&◌, ◌||◌}
use Rattle.orc_core.specs.Allowed.{may_place}
use Rattle.orc_core.specs.RecordParts.{any_holds, names}
use Rattle.orc_core.specs.declared.records.SlotUse.{SlotUse}
use Rattle.orc_core.specs.declared.records.SlotUse.TheVariants.{Held}
use Rattle.orc_any_domain.specs.Names.{row_link, word_at}
use Rattle.orc_heap.specs.Heap.{HeapNumbers}
use Rattle.orc_heap.specs.Journals.{run_heap}
use Rattle.orc_heap.specs.Seats.{HoldsPlace, HoldsWant, link_in, place_in}
use Rattle.orc_heap.specs.Slots.{Hold, Holds, id_in}
use Rattle.orc_heap.specs.declared.discipline.Discipline as discipline
use Rattle.orc_heap.specs.declared.events.Place.TheVariants.{Next as NodePlace, Side as SidePlace}
use Rattle.orc_heap.specs.declared.holds.At.{At}
use Rattle.orc_heap.specs.declared.holds.At.TheVariants.{Node as AtNode, Root as AtRoot, Side as AtSide}
use Rattle.orc_heap.specs.declared.holds.Want.{Want}
use Rattle.orc_heap.specs.declared.holds.Want.TheVariants.{Node as WantNode, Null as WantNull}
use Rattle.orc_machine_board.proofs.Holds.{has_out}
use Rattle.orc_machine_board.proofs.Licences.{has_either}
use Rattle.orc_machine_board.specs.Holding.{HasRow}
use Rattle.orc_machine_board.specs.Laws.Steps.{bounds_run, in_range}
use Rattle.orc_machine_board.specs.Licences.{ids_of}
use Rattle.orc_machine_board.specs.Rules.{bounds_in, heap_numbers, run_of}
use Rattle.orc_machine_board.specs.declared.machine.MachineShape.{MachineShape}
use Rattle.orc_projection.proofs.Mirrored.{projection_mirrors}
use Rattle.orc_projection.specs.Mirror.{Mirrors}
use Rattle.orc_projection.specs.PresentIds.{PresentIds, node_link, node_place}
use Rattle.orc_projection.specs.Projection.{project}
use Rattle.orc_domain.proofs.Seats.{slot_holds}
use Rattle.orc_domain.proofs.Stages.{Stage, seat}
use Rattle.orc_domain.specs.Laws.Holding.{held_slot}
use Rattle.orc_domain.specs.Seats.{slot_by}
use Rattle.orc_words.specs.Bounds.{Bounds}

-- where nodes have two links, there are second ones
pub above_one : (links : ℕ) → links ≡ 2 → 1 < links
above_one links e = omega (arith, e)

-- a place that a caller names is that of its word
pub place_named : (p : PresentIds) (n : HeapNumbers) (slots : List SlotUse) (at : At) → HoldsPlace n (map (slot_by p) slots) at
    → node_place p (word_at at) ≡ Some (place_in (map (slot_by p) slots) at)
place_named p n slots (AtRoot r) h = refl
place_named p n slots (AtNode h) e =
    let slot = held_slot p slots h.now.slot (record { row = h.now.row; id = id_in (map (slot_by p) slots) h.now }) e in
    ap (λ i. Some (NodePlace i)) (sym slot.1)
place_named p n slots (AtSide h) e =
    let slot = held_slot p slots h.now.slot (record { row = h.now.row; id = id_in (map (slot_by p) slots) h.now }) e.0 in
    ap (λ i. Some (SidePlace i)) (sym slot.1)

-- so is a link
pub link_named : (p : PresentIds) (slots : List SlotUse) (w : Want) → HoldsWant (map (slot_by p) slots) w
    → node_link p (row_link w) ≡ link_in (map (slot_by p) slots) w
link_named p slots (WantNull mark) h = refl
link_named p slots (WantNode h mark) e =
    let slot = held_slot p slots h.now.slot (record { row = h.now.row; id = id_in (map (slot_by p) slots) h.now }) e in
    ap (λ i. record { to = Some i; mark = mark }) (sym slot.1)

module _ {D N : Type 0} {d : discipline.Ghosts D N} {k : MachineShape N} (s : Stage d k) where
  pub mirrors : Mirrors (run_of (bounds_in k) s.view.journal) (ids_of (bounds_in k) s.view) (run_heap (heap_numbers k) (project (bounds_in k) s.view.journal))
  mirrors = projection_mirrors (bounds_in k) s.view.journal (in_range k.shape) s.lawful s.unmarked

  -- a row that the agent has is one of the table's
  pub has_low : (r : ℕ) → HasRow s.view.record_is r → r < (bounds_in k).rows
  has_low r has =
      let out = has_out (bounds_in k) s.view.journal s.view.agent r (in_range k.shape) s.lawful s.number (subst (λ d. HasRow d r) (sym s.mine) has) in
      subst (λ (c : Bounds). r < c.rows) (bounds_run (bounds_in k) s.view.journal) out.0

  -- what is held: the slot's row and node, and that the agent has the row
  pub hold_slot : (h : Hold) → Holds (seat s).slots h → (slice_get s.view.record_is.slots h.slot ≡ Some (Held h.row))
      × (id_in (seat s).slots h ≡ (ids_of (bounds_in k) s.view).node h.row)
  hold_slot h e = held_slot (ids_of (bounds_in k) s.view) s.view.record_is.slots h.slot (record { row = h.row; id = id_in (seat s).slots h }) e

  pub hold_has : (h : Hold) → Holds (seat s).slots h → HasRow s.view.record_is h.row
  hold_has h e = has_either (any_holds s.view.record_is.slots h.row) (names s.view.record_is.fresh h.row)
      (slot_holds s.view.record_is.slots h.slot h.row (hold_slot h e).0)

  pub hold_low : (h : Hold) → Holds (seat s).slots h → h.row < (bounds_in k).rows
  hold_low h e = has_low h.row (hold_has h e)

  -- the word of a place that a caller names may be read
  pub place_may : (at : At) → HoldsPlace (heap_numbers k) (seat s).slots at
      → may_place (bounds_in k) (word_at at) (λ r. any_holds s.view.record_is.slots r || names s.view.record_is.fresh r) ≡ true
  place_may (AtRoot r) h = lt-ltb r (bounds_in k).roots h
  place_may (AtNode h) e =
      let low = lt-ltb h.now.row (bounds_in k).rows (hold_low h.now e) in
      let has = hold_has h.now e in
      λ i. low i && has i
  place_may (AtSide h) e =
      let low = lt-ltb h.now.row (bounds_in k).rows (hold_low h.now e.0) in
      let two = lt-ltb 1 (bounds_in k).links (above_one (bounds_in k).links e.1) in
      let has = hold_has h.now e.0 in
      λ i. (low i && two i) && has i
