-- A stack at an agent's own root.
use Rattle.std.specs.Borrow.{Bor}
use Rattle.std.specs.Prelude.{None, Option, Some, false, slice_get, slice_set, true, ℕ, ◌≡◌}
use Rattle.orc_heap.specs.Heap.{HeapNumbers, Node, null, shown}
use Rattle.orc_heap.specs.Seats.{Seat, heap_of}
use Rattle.orc_heap.specs.Slots.{Hold, id_in}
use Rattle.orc_heap.specs.declared.events.Link.{Link}
use Rattle.orc_heap.specs.declared.events.Place.{Place}
use Rattle.orc_heap.specs.declared.events.Place.TheVariants.{Next, Root, Side}

-- an unmarked link
abbrev pub plain_link : Option ℕ → Link
plain_link to = record { to = to; mark = false }

-- the agent's root leads here
abbrev pub HasTop : HeapNumbers → Seat ℕ → Option ℕ → Type 0
HasTop n s to = shown (heap_of n s) (Root s.agent) ≡ Some (plain_link to)

-- a once linked node of this agent, with this value and this node below it, and no second link
abbrev pub stack_node : ℕ → ℕ → Option ℕ → Node
stack_node agent value below = record { giver = agent; first = Some value; second = Some 0; link = plain_link below; side = null; named = true; linked = true }

-- the node of this id is such a node
abbrev pub HasNode : HeapNumbers → Seat ℕ → ℕ → ℕ → Option ℕ → Type 0
HasNode n s id value below = slice_get (heap_of n s).nodes id ≡ Some (stack_node s.agent value below)

-- what is held, if anything, is such a node
abbrev pub HoldsStackNode : HeapNumbers → Seat ℕ → Option (Bor Hold) → Type 0
HoldsStackNode n s None = Unit {0}
HoldsStackNode n s (Some h) = (value : ℕ) × (below : Option ℕ) × HasNode n s (id_in s.slots h.now) value below

-- the nodes of the agent's stack stay as they are
abbrev pub NodesStay : HeapNumbers → Seat ℕ → Seat ℕ → Type 0
NodesStay n s t = (id value : ℕ) (below : Option ℕ) → HasNode n s id value below → HasNode n t id value below

-- the stack stays, and so does what the pass holds
pub record StackStays (n : HeapNumbers) (s t : Seat ℕ) : Type 0 where
  pub agent : t.agent ≡ s.agent
  pub slots : t.slots ≡ s.slots
  pub fresh : t.fresh ≡ s.fresh
  pub top : (to : Option ℕ) → HasTop n s to → HasTop n t to
  pub nodes : NodesStay n s t

-- a new node with this value, which is held in this slot, stands on top of what was there
pub record Pushes (n : HeapNumbers) (below : Option ℕ) (slot value : ℕ) (s : Seat ℕ) (h : Hold) (t : Seat ℕ) : Type 0 where
  pub id : ℕ
  pub slot_is : h.slot ≡ slot
  pub agent : t.agent ≡ s.agent
  pub slots : t.slots ≡ slice_set s.slots slot (Some (record { row = h.row; id = id }))
  pub fresh : t.fresh ≡ s.fresh
  pub top : HasTop n t (Some id)
  pub node : HasNode n t id value below
  pub nodes : NodesStay n s t

-- the stack is empty
pub record Clears (n : HeapNumbers) (s t : Seat ℕ) : Type 0 where
  pub agent : t.agent ≡ s.agent
  pub slots : t.slots ≡ s.slots
  pub fresh : t.fresh ≡ s.fresh
  pub top : HasTop n t None
  pub nodes : NodesStay n s t

-- the stack has two nodes, with these values, the upper one first
pub record HasTwo (n : HeapNumbers) (s : Seat ℕ) (upper lower : ℕ) : Type 0 where
  pub upper_id : ℕ
  pub lower_id : ℕ
  pub top : HasTop n s (Some upper_id)
  pub upper_node : HasNode n s upper_id upper (Some lower_id)
  pub lower_node : HasNode n s lower_id lower None

-- the place is the root or a link of the agent's stack, and leads to this node
abbrev pub StackLeadsTo : HeapNumbers → Seat ℕ → Place → ℕ → Type 0
StackLeadsTo n s (Root r) to = (r ≡ s.agent) × HasTop n s (Some to)
StackLeadsTo n s (Next id) to = (value : ℕ) × HasNode n s id value (Some to)
StackLeadsTo n s (Side id) to = ⊥

-- the node to which the place leads was found, and is held in this slot; the stack stays
pub record FindsNode (n : HeapNumbers) (place : Place) (slot : ℕ) (s : Seat ℕ) (h : Hold) (t : Seat ℕ) : Type 0 where
  pub id : ℕ
  pub is : (to : ℕ) → StackLeadsTo n s place to → id ≡ to
  pub slot_is : h.slot ≡ slot
  pub agent : t.agent ≡ s.agent
  pub slots : t.slots ≡ slice_set s.slots slot (Some (record { row = h.row; id = id }))
  pub fresh : t.fresh ≡ s.fresh
  pub top : (to : Option ℕ) → HasTop n s to → HasTop n t to
  pub nodes : NodesStay n s t
