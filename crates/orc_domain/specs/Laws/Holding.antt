-- What a pass holds between calls is known to its agent.
use Rattle.std.proofs.Common.{List, Some, [], ap, arith, eq-eqb, refl, subst, suc, sym, true, zero, ℕ, ◌<◌, ◌∙◌, ◌≡◌, ◌∷◌}
use Rattle.std.specs.Prelude.{map, slice_get, slice_index_or}
use Rattle.orc_core.specs.Machine.{new_machine, record_at}
use Rattle.orc_core.specs.RecordParts.{holds, slot_of}
use Rattle.orc_core.specs.declared.records.Agent.{Agent}
use Rattle.orc_core.specs.declared.records.SlotUse.{SlotUse}
use Rattle.orc_core.specs.declared.records.SlotUse.TheVariants.{Empty, Held, Published}
use Rattle.orc_heap.specs.Acts.{IsKnown}
use Rattle.orc_heap.specs.Journals.{run_heap}
use Rattle.orc_heap.specs.Slots.{Hold, Holds, SlotNode, id_in}
use Rattle.orc_machine_board.specs.Rules.{run_of}
use Rattle.orc_projection.proofs.Mirrored.{projection_mirrors}
use Rattle.orc_projection.specs.Mirror.{numbers_of}
use Rattle.orc_projection.specs.PresentIds.{PresentIds}
use Rattle.orc_projection.specs.Projection.{StoresUnmarked, present_ids, project}
use Rattle.orc_domain.specs.Seats.{IsBetweenCalls, slot_by, slots_by}
use Rattle.orc_sound.specs.Journals.{IsLawfulJournal}
use Rattle.orc_sound.specs.declared.steps.Step.{Step}
use Rattle.orc_words.specs.Bounds.{Bounds, IsShape}

-- the row in a slot, and its node
pub held_slot : (p : PresentIds) (slots : List SlotUse) (k : ℕ) (x : SlotNode) → slice_get (map (slot_by p) slots) k ≡ Some (Some x)
    → (slice_get slots k ≡ Some (Held x.row)) × (x.id ≡ p.node x.row)
held_slot p [] k x e = cc
held_slot p (Empty ∷ ss) zero x e = cc
held_slot p (Published r ∷ ss) zero x e = cc
held_slot p (Held r ∷ ss) zero x e =
    let same : record { row = r; id = p.node r } ≡ x = cc in
    (ap (λ (y : SlotNode). Some (Held y.row)) same, sym (ap (λ (y : SlotNode). y.id) same) ∙ ap (λ (y : SlotNode). p.node y.row) same)
held_slot p (s ∷ ss) (suc k) x e = held_slot p ss k x e

pub slot_at : (slots : List SlotUse) (k r : ℕ) → slice_get slots k ≡ Some (Held r) → slice_index_or slots k Empty ≡ Held r
slot_at [] k r e = cc
slot_at (s ∷ ss) zero r e = cc
slot_at (s ∷ ss) (suc k) r e = slot_at ss k r e

above_zero : (d : Agent) → IsBetweenCalls d → (slot r : ℕ) → slot_of d slot ≡ Held r → 0 < slot
above_zero d ready zero r e = absurd (empty_held (sym ready.zero ∙ e))
  where
    empty_held : {x : ℕ} → (let y : SlotUse = Empty in y) ≡ Held x → ⊥
    empty_held e = cc
above_zero d ready (suc slot) r e = omega arith

pub known_held : {N : Type 0} (b : Bounds) (j : List (Step N)) (a : ℕ) (d : Agent) → IsShape b → IsLawfulJournal (new_machine b) j → StoresUnmarked j
    → record_at (run_of b j) a ≡ d → IsBetweenCalls d → (h : Hold) → Holds (slots_by (present_ids b j) d) h
    → IsKnown a (run_heap (numbers_of b) (project b j)) (id_in (slots_by (present_ids b j) d) h)
known_held b j a d shape lawful unmarked mine ready h e =
    let p = present_ids b j in
    let slot = held_slot p d.slots h.slot (record { row = h.row; id = id_in (slots_by p d) h }) e in
    let at = slot_at d.slots h.slot h.row slot.0 in
    let there = subst (λ (r : Agent). holds (slot_of r h.slot) h.row ≡ true) (sym mine) (ap (λ z. holds z h.row) at ∙ eq-eqb h.row h.row refl) in
    subst (IsKnown a (run_heap (numbers_of b) (project b j))) (sym slot.1)
    ((projection_mirrors b j shape lawful unmarked).held a h.slot h.row (above_zero d ready h.slot h.row at) there)
