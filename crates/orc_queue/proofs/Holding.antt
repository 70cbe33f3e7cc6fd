-- What a pass knows of the events that it has seen, and of the node that a look has put into one of its slots.
use Rattle.std.proofs.Common.{Some, [], ap, subst, sym, ℕ, ◌∙◌, ◌≡◌, ◌≢◌}
use mathlib.Core.List.{IsPrefix}
use Rattle.orc_heap.proofs.Pieces.{release_fresh, slot_free, slot_holds, slot_id, slot_other, slot_other_id, slot_released}
use Rattle.orc_heap.specs.Allowed.{AllAllowed, IsLinkedNode}
use Rattle.orc_heap.specs.Calls.{Releases}
use Rattle.orc_heap.specs.Heap.{HeapNumbers}
use Rattle.orc_heap.specs.Seats.{IsUntouched, Seat, heap_of}
use Rattle.orc_heap.specs.Slots.{Hold, Holds, IsFree, Slots, id_in}
use Rattle.orc_heap.specs.declared.links.Links.{Ghosts as LinksOf}
use Rattle.orc_fifo_rule.specs.declared.fifo.FifoNote.{FifoNote}
use Rattle.orc_fifo_rule.specs.QueueDiscipline.{FifoHolds, FifoMay}
use Rattle.orc_queue.specs.Looking.{Found, Known}
use Rattle.orc_queue.specs.Turns.{HasDummy}
use Rattle.orc_queue.proofs.Filled.{known}

-- a pass of a queue's domain knows the events that it has seen, by three laws of the domain
pub pass_known : {L D P S : Type 0} (m : LinksOf L D P S FifoNote)
    → ((links : L) (p : P) → m.belongs links p → IsPrefix (m.opening links) (m.seat links p).seen)
    → ((links : L) (p : P) → m.belongs links p → AllAllowed (FifoMay (m.numbers links)) [] (m.seat links p).seen)
    → ((links : L) (p : P) → m.belongs links p → FifoHolds (m.numbers links) (m.seat links p).seen)
    → (links : L) (p : P) → HasDummy (m.numbers links) (m.opening links) → m.belongs links p → Known (m.numbers links) (m.seat links p).seen
pass_known m opens allowed obeys links p made pass =
    known (m.numbers links) (m.opening links) (m.seat links p).seen made (opens links p pass) (allowed links p pass) (obeys links p pass)

-- the once linked node that a look has put into a free slot
module _ {n : HeapNumbers} {slot : ℕ} {s : Seat FifoNote} {h : Hold} {t : Seat FifoNote} (f : Found n slot s h t) where
  pub found_holds : Holds t.slots h
  found_holds = slot_holds s t slot f.id h f.free f.in_slot

  pub found_id : id_in t.slots h ≡ f.id
  found_id = slot_id s t slot f.id h f.free f.in_slot

  -- the other slots stay
  pub found_free : (other : ℕ) → other ≢ slot → IsFree s.slots other → IsFree t.slots other
  found_free = slot_free s t slot f.id h f.free f.in_slot

  pub found_other : (k : Hold) → Holds s.slots k → Holds t.slots k
  found_other = slot_other s t slot f.id h f.free f.in_slot

  pub found_other_id : (k : Hold) → Holds s.slots k → id_in t.slots k ≡ id_in s.slots k
  found_other_id = slot_other_id s t slot f.id h f.free f.in_slot

  -- it is held as long as the slots stay
  pub found_kept : {slots : Slots} → slots ≡ t.slots → Holds slots h
  found_kept same = subst (λ z. Holds z h) (sym same) found_holds

  -- its release gives the slots back
  pub found_released : {u v : Seat FifoNote} → u.slots ≡ t.slots → Releases u h v → v.slots ≡ s.slots
  found_released {u} {v} same = slot_released s t slot f.id h f.free f.in_slot u v same

  -- and leaves the fresh node
  pub found_fresh : {u v : Seat FifoNote} → u.slots ≡ t.slots → ((i : ℕ) → u.fresh ≡ Some i → IsUntouched u.agent (heap_of n u) i)
      → IsLinkedNode (heap_of n u) f.id → Releases u h v → v.fresh ≡ u.fresh
  found_fresh {u} {v} same untouched linked =
      release_fresh n u v h untouched (subst (λ (i : ℕ). IsLinkedNode (heap_of n u) i) (sym (ap (λ z. id_in z h) same ∙ found_id)) linked)
