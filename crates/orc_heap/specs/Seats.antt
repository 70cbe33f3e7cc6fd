-- What a pass shows: its agent, the events that it has seen, what its slots hold, and its fresh node; and how a caller names
-- places, links and targets by what the pass holds.
use Rattle.std.specs.Borrow.{Bor}
use Rattle.std.specs.Prelude.{List, None, Option, Some, false, replicate, slice_get, ℕ, ◌<◌, ◌≡◌, ◌≢◌}
use Rattle.orc_heap.specs.Heap.{Heap, HeapNumbers, Node}
use Rattle.orc_heap.specs.Journals.{run_heap}
use Rattle.orc_heap.specs.Slots.{Hold, Holds, Slots, id_in}
use Rattle.orc_heap.specs.declared.events.Event.{Event}
use Rattle.orc_heap.specs.declared.events.Link.{Link}
use Rattle.orc_heap.specs.declared.events.Place.{Place}
use Rattle.orc_heap.specs.declared.events.Place.TheVariants.{Next, Root, Side}
use Rattle.orc_heap.specs.declared.holds.At.{At}
use Rattle.orc_heap.specs.declared.holds.At.TheVariants.{Node as AtNode, Root as AtRoot, Side as AtSide}
use Rattle.orc_heap.specs.declared.holds.Want.{Want}
use Rattle.orc_heap.specs.declared.holds.Want.TheVariants.{Node as WantNode, Null as WantNull}

-- what a pass shows
pub record Seat (N : Type 0) : Type 0 where
  pub agent : ℕ
  pub seen : List (Event N)
  pub slots : Slots
  pub fresh : Option ℕ

-- the heap that a pass has seen
abbrev pub heap_of : {N : Type 0} → HeapNumbers → Seat N → Heap
heap_of n s = run_heap n s.seen

-- the pass holds nothing, and has no fresh node
pub record IsIdle {N : Type 0} (s : Seat N) : Type 0 where
  pub slots : s.slots ≡ replicate 8 None
  pub fresh : s.fresh ≡ None

-- the place that a caller names
abbrev pub place_in : Slots → At → Place
place_in slots (AtRoot r) = Root r
place_in slots (AtNode h) = Next (id_in slots h.now)
place_in slots (AtSide h) = Side (id_in slots h.now)

-- it is a root of the heap, or in a node that is held; second links are there where nodes have two
abbrev pub HoldsPlace : HeapNumbers → Slots → At → Type 0
HoldsPlace n slots (AtRoot r) = r < n.roots
HoldsPlace n slots (AtNode h) = Holds slots h.now
HoldsPlace n slots (AtSide h) = Holds slots h.now × (n.links ≡ 2)

-- it isn't in the node that this hold protects
abbrev pub IsOutside : Hold → At → Type 0
IsOutside from (AtRoot r) = Unit {0}
IsOutside from (AtNode h) = h.now.slot ≢ from.slot
IsOutside from (AtSide h) = h.now.slot ≢ from.slot

-- the link that a caller names
abbrev pub link_in : Slots → Want → Link
link_in slots (WantNull mark) = record { to = None; mark = mark }
link_in slots (WantNode h mark) = record { to = Some (id_in slots h.now); mark = mark }

-- it is null, or its target is held
abbrev pub HoldsWant : Slots → Want → Type 0
HoldsWant slots (WantNull mark) = Unit {0}
HoldsWant slots (WantNode h mark) = Holds slots h.now

-- the target that a caller names
abbrev pub target_in : Slots → Option (Bor Hold) → Option ℕ
target_in slots None = None
target_in slots (Some h) = Some (id_in slots h.now)

-- it is none, or a node that is held and isn't fresh
abbrev pub HoldsTarget : {N : Type 0} → Seat N → Option (Bor Hold) → Type 0
HoldsTarget s None = Unit {0}
HoldsTarget s (Some h) = Holds s.slots h.now × (s.fresh ≢ Some (id_in s.slots h.now))

-- the hold is of the fresh node
pub record HoldsFresh {N : Type 0} (s : Seat N) (h : Hold) : Type 0 where
  pub held : Holds s.slots h
  pub fresh : s.fresh ≡ Some (id_in s.slots h)

-- the place isn't a link of the fresh node
abbrev pub IsNotFresh : {N : Type 0} → Seat N → At → Type 0
IsNotFresh s (AtRoot r) = Unit {0}
IsNotFresh s (AtNode h) = s.fresh ≢ Some (id_in s.slots h.now)
IsNotFresh s (AtSide h) = s.fresh ≢ Some (id_in s.slots h.now)

-- the node was given to this agent, and no Aim, AimSide or Move made a link to it
pub record IsUntouched (agent : ℕ) (h : Heap) (id : ℕ) : Type 0 where
  pub node : Node
  pub there : slice_get h.nodes id ≡ Some node
  pub mine : node.giver ≡ agent
  pub unnamed : node.named ≡ false
  pub unlinked : node.linked ≡ false
