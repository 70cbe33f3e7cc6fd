-- Pieces of a call, one after another; and what a pass holds over them.
use Rattle.std.proofs.Common.{Bool, List, Some, [], ap, false, inl, inr, refl, subst, sym, true, ℕ, ◌∙◌, ◌≡◌, ◌≢◌}
use Rattle.std.specs.Borrow.{Bor}
use Rattle.std.specs.List.{list_any, slice_get}
use Rattle.orc_heap.proofs.Fresh.{touched_by}
use Rattle.orc_heap.proofs.Calls.{part_allowed}
use Rattle.orc_heap.specs.Allowed.{AllAllowed, IsLinkedNode, HasLink}
use Rattle.orc_heap.specs.Calls.{Swings, given_node}
use Rattle.orc_heap.specs.Heap.{HeapNumbers, Node, link_to}
use Rattle.orc_heap.specs.Journals.{points_to, run_heap}
use Rattle.orc_heap.specs.OwnEvents.{Puts}
use Rattle.orc_heap.specs.Seats.{Seat, heap_of}
use Rattle.orc_heap.specs.Slots.{Hold, Holds, id_in}
use Rattle.orc_heap.specs.declared.events.Event.{Event}
use Rattle.orc_heap.specs.declared.events.Place.TheVariants.{Next}
use Rattle.orc_heap.specs.declared.holds.At.TheVariants.{Root as AtRoot}
use Rattle.orc_heap.specs.declared.holds.Want.TheVariants.{Node as WantNode}
use Rattle.orc_fifo_rule.proofs.Later.{link_later, named_later, position_later}
use Rattle.orc_fifo_rule.proofs.Leaving.{left_later}
use Rattle.orc_fifo_rule.specs.declared.fifo.FifoNote.{FifoNote}
use Rattle.orc_fifo_rule.specs.declared.fifo.FifoNote.TheVariants.{Swing}
use Rattle.orc_fifo_rule.specs.QueueDiscipline.{FifoHolds, FifoMay, position_of}
use Rattle.orc_fifo_rule.specs.Watches.{IsLeftBehind, WasNamed}
use Rattle.orc_fifo_rule.specs.Laws.Kept.{fifo_keeps, fifo_moves_linked}
use Rattle.orc_queue.specs.Looking.{Known}
use Rattle.orc_queue.specs.Turns.{Helps, HoldsNode}
use Rattle.orc_heap.proofs.Pieces.{own_node_puts, unless_other}
use Rattle.orc_heap.proofs.Moved.{linked_place_later}

-- what stays over a piece, whatever others do
module _ (n : HeapNumbers) (s t : Seat FifoNote) (own : List (Event FifoNote)) (p : Puts s own t) (all : AllAllowed (FifoMay n) [] t.seen) where
  new : AllAllowed (FifoMay n) s.seen p.part
  new = part_allowed (FifoMay n) s t own p all

  pub named_puts : (root id : ℕ) → WasNamed (heap_of n s) root id → WasNamed (heap_of n t) root id
  named_puts root id w = subst (λ es. WasNamed (run_heap n es) root id) (sym p.is) (named_later n s.seen p.part root id w new)

  pub linked_puts : (id : ℕ) → IsLinkedNode (heap_of n s) id → IsLinkedNode (heap_of n t) id
  linked_puts id l =
      subst (λ es. IsLinkedNode (run_heap n es) id) (sym p.is) (linked_place_later n (FifoMay n) (λ es e m. m.fits) (Next id) s.seen p.part l new)

  pub link_puts : (id next : ℕ) → HasLink (heap_of n s) id (link_to next) → HasLink (heap_of n t) id (link_to next)
  link_puts id next l = subst (λ es. HasLink (run_heap n es) id (link_to next)) (sym p.is) (link_later n s.seen p.part id next l new)

  -- the same of two nodes that are held
  pub held_link_puts : (h k : Hold) → t.slots ≡ s.slots → HasLink (heap_of n s) (id_in s.slots h) (link_to (id_in s.slots k))
      → HasLink (heap_of n t) (id_in t.slots h) (link_to (id_in t.slots k))
  held_link_puts h k slots l = subst (λ z. HasLink (heap_of n t) (id_in z h) (link_to (id_in z k))) (sym slots) (link_puts _ _ l)

  pub position_puts : (id : ℕ) → IsLinkedNode (heap_of n s) id → position_of (heap_of n t) id ≡ position_of (heap_of n s) id
  position_puts id l = ap (λ es. position_of (run_heap n es) id) p.is ∙ position_later n s.seen p.part id l new

  pub left_puts : (id : ℕ) → Known n s.seen → IsLeftBehind (heap_of n s) id → IsLeftBehind (heap_of n t) id
  left_puts id k l = subst (λ es. IsLeftBehind (run_heap n es) id) (sym p.is) (left_later n s.seen p.part id k.holds k.dummy.begun l new)

  -- the fresh node stays the pass's own, changed by its own events alone
  pub node_touched : (job : ℕ) (h : Hold) → Known n s.seen → (node : HoldsNode n job h s) → list_any (λ e. points_to e.act (id_in s.slots h)) own ≡ false
      → slice_get (heap_of n t).nodes (id_in s.slots h) ≡ Some (touched_by (id_in s.slots h) own (given_node s.agent job node.second))
  node_touched job h k node away =
      let id = id_in s.slots h in
      let x : Node = given_node s.agent job node.second in
      (own_node_puts n (FifoHolds n) (FifoMay n) (fifo_keeps n) (λ es e holds may. may.fits) (fifo_moves_linked n) s t own p k.holds all id x
      (record { there = node.node; own = record { mine = refl; unnamed = refl; unlinked = refl } }) away).there

  pub node_held : (job : ℕ) (h : Hold) (second : ℕ) → Known n s.seen → (node : HoldsNode n job h s) → Holds t.slots h
      → id_in t.slots h ≡ id_in s.slots h → t.fresh ≡ s.fresh
      → list_any (λ e. points_to e.act (id_in s.slots h)) own ≡ false
      → touched_by (id_in s.slots h) own (given_node s.agent job node.second) ≡ given_node s.agent job second → HoldsNode n job h t
  node_held job h second k node held same_id fresh away is = record {
    held = held;
    fresh = fresh ∙ (node.fresh ∙ ap (λ (i : ℕ). Some i) (sym same_id));
    second = second;
    node = rw (same_id, p.agent) (node_touched job h k node away ∙ ap (λ (x : Node). Some x) is);
  }

  pub node_puts : (job : ℕ) (h : Hold) (second : ℕ) → Known n s.seen → (node : HoldsNode n job h s) → t.slots ≡ s.slots → t.fresh ≡ s.fresh
      → list_any (λ e. points_to e.act (id_in s.slots h)) own ≡ false
      → touched_by (id_in s.slots h) own (given_node s.agent job node.second) ≡ given_node s.agent job second → HoldsNode n job h t
  node_puts job h second k node slots fresh away is =
      node_held job h second k node (subst (λ z. Holds z h) (sym slots) node.held) (ap (λ z. id_in z h) slots) fresh away is

-- help of the tail
pub helps : (n : HeapNumbers) (s t : Seat FifoNote) (tail next : Bor Hold) (done : Bool) → s.fresh ≢ Some (id_in s.slots next.now)
    → Swings (AtRoot 1) (WantNode tail false) (WantNode next false) (Some Swing) s done t → Helps (id_in s.slots tail.now) (id_in s.slots next.now) s t
helps n s t tail next true other w = record { slots = w.slots; fresh = w.fresh ∙ unless_other s.fresh (id_in s.slots next.now) other; either = inl w.puts }
helps n s t tail next false other w = record { slots = w.slots; fresh = w.fresh; either = inr w.puts }
