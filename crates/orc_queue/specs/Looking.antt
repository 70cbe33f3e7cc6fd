-- What a look of a root, and one of a once linked node's link, finds.
use Rattle.std.specs.Prelude.{List, None, Option, Some, [], ℕ, ◌∷◌, ◌≡◌, ◌≢◌}
use Rattle.orc_heap.proofs.Pieces.{InSlot}
use Rattle.orc_heap.specs.Allowed.{AllAllowed, HasLink, IsLinkedNode}
use Rattle.orc_heap.specs.Calls.{event_of}
use Rattle.orc_heap.specs.Heap.{HeapNumbers, link_to, null}
use Rattle.orc_heap.specs.OwnEvents.{Puts}
use Rattle.orc_heap.specs.Seats.{Seat, heap_of}
use Rattle.orc_heap.specs.Slots.{Hold, IsFree}
use Rattle.orc_heap.specs.declared.events.Act.TheVariants.{Look}
use Rattle.orc_heap.specs.declared.events.Event.{Event}
use Rattle.orc_heap.specs.declared.events.Link.{Link}
use Rattle.orc_heap.specs.declared.events.Place.{Place}
use Rattle.orc_heap.specs.declared.events.Place.TheVariants.{Next, Root}
use Rattle.orc_fifo_rule.specs.QueueDiscipline.{FifoHolds, FifoMay}
use Rattle.orc_fifo_rule.specs.Watches.{WasNamed}
use Rattle.orc_fifo_rule.specs.declared.fifo.FifoNote.{FifoNote}
use Rattle.orc_queue.specs.Turns.{HasDummy}
use Rattle.orc_queue.specs.declared.swings.Successor.{Successor}
use Rattle.orc_queue.specs.declared.swings.Successor.TheVariants.{Differs, Node, Nothing}

-- what is known of the events that a pass has seen
pub record Known (n : HeapNumbers) (es : List (Event FifoNote)) : Type 0 where
  pub holds : FifoHolds n es
  pub all : AllAllowed (FifoMay n) [] es
  pub dummy : HasDummy n es

-- the once linked node that a look has put into a free slot
pub record Found (n : HeapNumbers) (slot : ℕ) (s : Seat FifoNote) (h : Hold) (t : Seat FifoNote) : Type 0 where
  pub id : ℕ
  pub free : IsFree s.slots slot
  pub in_slot : InSlot s slot id h t
  pub linked : IsLinkedNode (heap_of n t) id

-- two loads of a look differed
pub record FindsTwo (n : HeapNumbers) (place : Place) (s t : Seat FifoNote) : Type 0 where
  pub before : Known n s.seen
  pub after : Known n t.seen
  pub one : Link
  pub two : Link
  pub other : one ≢ two
  pub slots : t.slots ≡ s.slots
  pub fresh : t.fresh ≡ s.fresh
  pub puts : Puts s (event_of s (Look place one) None ∷ event_of s (Look place two) None ∷ []) t

-- a node that a look of a root holds
pub record HoldsRoot (n : HeapNumbers) (root slot : ℕ) (s : Seat FifoNote) (h : Hold) (t : Seat FifoNote) : Type 0 where
  pub before : Known n s.seen
  pub after : Known n t.seen
  pub fresh : t.fresh ≡ s.fresh
  pub node : Found n slot s h t
  pub named : WasNamed (heap_of n t) root node.id
  pub one : Link
  pub puts : Puts s (event_of s (Look (Root root) one) None ∷ event_of s (Look (Root root) (link_to node.id)) None ∷ []) t

-- by its answer
abbrev pub LooksAtRoot : HeapNumbers → ℕ → ℕ → Seat FifoNote → Option Hold → Seat FifoNote → Type 0
LooksAtRoot n root slot s (Some h) t = HoldsRoot n root slot s h t
LooksAtRoot n root slot s None t = FindsTwo n (Root root) s t

-- the successor that a look of a node's link holds
pub record HoldsNext (n : HeapNumbers) (id slot : ℕ) (s : Seat FifoNote) (h : Hold) (t : Seat FifoNote) : Type 0 where
  pub before : Known n s.seen
  pub after : Known n t.seen
  pub fresh : t.fresh ≡ s.fresh
  pub node : Found n slot s h t
  pub link : HasLink (heap_of n t) id (link_to node.id)
  pub puts : Puts s (event_of s (Look (Next id) (link_to node.id)) None ∷ event_of s (Look (Next id) (link_to node.id)) None ∷ []) t

-- the link was null
pub record FindsNull (n : HeapNumbers) (id : ℕ) (s t : Seat FifoNote) : Type 0 where
  pub before : Known n s.seen
  pub after : Known n t.seen
  pub slots : t.slots ≡ s.slots
  pub fresh : t.fresh ≡ s.fresh
  pub puts : Puts s (event_of s (Look (Next id) null) None ∷ []) t

-- by its answer
abbrev pub LooksBehind : HeapNumbers → ℕ → ℕ → Seat FifoNote → Successor → Seat FifoNote → Type 0
LooksBehind n id slot s Nothing t = FindsNull n id s t
LooksBehind n id slot s (Node h) t = HoldsNext n id slot s h t
LooksBehind n id slot s Differs t = FindsTwo n (Next id) s t
