-- What each act does to a heap, and where it fits. After Michael and Scott 1996 and Harris 2001.
use Rattle.std.specs.Prelude.{None, Option, Some, [], false, if◌then◌else◌, slice_get, suc, true, zero, ℕ, ◌++◌, ◌<◌, ◌==◌, ◌≡◌, ◌≢◌, ◌∷◌, ◌⊎◌}
use Rattle.orc_heap.specs.Heap.{Heap, Node, change, new_node, shown}
use Rattle.orc_heap.specs.declared.events.Act.{Act}
use Rattle.orc_heap.specs.declared.events.Act.TheVariants.{Aim, AimSide, Fill, Give, Look, Miss, Move}
use Rattle.orc_heap.specs.declared.events.Link.{Link}
use Rattle.orc_heap.specs.declared.events.Place.{Place}
use Rattle.orc_heap.specs.declared.events.Place.TheVariants.{Next, Root, Side}

abbrev pub with_value : ℕ → ℕ → Node → Node
with_value zero value n = record n { first = Some value }
with_value (suc which) value n = record n { second = Some value }

abbrev pub with_link : Link → Node → Node
with_link link n = record n { link = link }

abbrev pub with_side : Link → Node → Node
with_side link n = record n { side = link }

-- the node with its link of this number, 0 or 1, set
abbrev pub with_numbered : ℕ → Link → Node → Node
with_numbered zero link n = with_link link n
with_numbered (suc number) link n = with_side link n

abbrev pub as_named : Node → Node
as_named n = record n { named = true }

abbrev pub as_linked : Node → Node
as_linked n = record n { named = true; linked = true }

-- the heap with the node of this id changed
abbrev pub change_node : (Node → Node) → ℕ → Heap → Heap
change_node f id h = record h { nodes = change f id h.nodes }

-- the heap with the target changed, if there is one
abbrev pub change_target : (Node → Node) → Option ℕ → Heap → Heap
change_target f None h = h
change_target f (Some id) h = change_node f id h

-- the heap with this link at the place
abbrev pub set_link : Place → Link → Heap → Heap
set_link (Root r) link h = record h { roots = change (λ l. link) r h.roots }
set_link (Next id) link h = change_node (with_link link) id h
set_link (Side id) link h = change_node (with_side link) id h

-- the heap after an act of this agent
abbrev pub heap_after : ℕ → Act → Heap → Heap
heap_after agent Give h = record h { nodes = h.nodes ++ new_node agent ∷ [] }
heap_after agent (Fill id which value) h = change_node (with_value which value) id h
heap_after agent (Aim id to) h = change_target as_named to (change_node (with_link (record { to = to; mark = false })) id h)
heap_after agent (AimSide id to) h = change_target as_named to (change_node (with_side (record { to = to; mark = false })) id h)
heap_after agent (Look place link) h = h
heap_after agent (Move place from to) h = change_target as_linked to.to (set_link place to h)
heap_after agent (Miss place wanted found) h = h

-- an Aim of a node's link of this number, 0 or 1
abbrev pub aim_act : ℕ → ℕ → Option ℕ → Act
aim_act zero id to = Aim id to
aim_act (suc number) id to = AimSide id to

-- the node was given to this agent, and no Move made a link to it
pub record IsFresh (agent : ℕ) (h : Heap) (id : ℕ) : Type 0 where
  pub node : Node
  pub there : slice_get h.nodes id ≡ Some node
  pub mine : node.giver ≡ agent
  pub unlinked : node.linked ≡ false

-- the node was given to this agent, or an Aim, an AimSide or a Move made a link to it
pub record IsKnown (agent : ℕ) (h : Heap) (id : ℕ) : Type 0 where
  pub node : Node
  pub there : slice_get h.nodes id ≡ Some node
  pub known : (node.giver ≡ agent) ⊎ (node.named ≡ true)

-- null, or a node that is known to the agent; so a fresh node is out of the reach of other agents
abbrev pub IsTarget : ℕ → Heap → Option ℕ → Type 0
IsTarget agent h None = Unit {0}
IsTarget agent h (Some id) = IsKnown agent h id

-- the act of this agent fits the heap
abbrev pub Fits : ℕ → Act → Heap → Type 0
Fits agent Give h = Unit {0}
Fits agent (Fill id which value) h = IsFresh agent h id × (which < 2)
Fits agent (Aim id to) h = IsFresh agent h id × IsTarget agent h to
Fits agent (AimSide id to) h = IsFresh agent h id × IsTarget agent h to × (1 < h.links)
Fits agent (Look place link) h = shown h place ≡ Some link
Fits agent (Move place from to) h = (shown h place ≡ Some from) × IsTarget agent h to.to
Fits agent (Miss place wanted found) h = (shown h place ≡ Some found) × (found ≢ wanted)

-- a once linked node's first link after the act: a Move of it gives the new one, and no other act changes it
abbrev pub moved_link : Act → ℕ → Link → Link
moved_link (Move (Next id) from to) i old = if id == i then to else old
moved_link act i old = old

-- the same of its second link
abbrev pub moved_side : Act → ℕ → Link → Link
moved_side (Move (Side id) from to) i old = if id == i then to else old
moved_side act i old = old

-- the node of this id still is there and once linked, has the old node's values, and this first link
pub record StaysLinked (h : Heap) (id : ℕ) (old : Node) (link : Link) : Type 0 where
  pub node : Node
  pub there : slice_get h.nodes id ≡ Some node
  pub linked : node.linked ≡ true
  pub giver : node.giver ≡ old.giver
  pub first : node.first ≡ old.first
  pub second : node.second ≡ old.second
  pub link_is : node.link ≡ link
