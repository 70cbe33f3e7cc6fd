-- Events that a discipline allows: where they stand, and in every later journal of an agent.
use Rattle.std.specs.Prelude.{List, None, Some, [], filter, slice_get, true, ℕ, ◌++◌, ◌<◌, ◌==◌, ◌∷◌, ◌≡◌, ◌⊎◌}
use Rattle.orc_heap.specs.Heap.{Heap, HeapNumbers, Node, null, shown}
use Rattle.orc_heap.specs.Journals.{FitsAfter, run_heap}
use Rattle.orc_heap.specs.declared.events.Act.{Act}
use Rattle.orc_heap.specs.declared.events.Act.TheVariants.{Move}
use Rattle.orc_heap.specs.declared.events.Event.{Event}
use Rattle.orc_heap.specs.declared.events.Link.{Link}
use Rattle.orc_heap.specs.declared.events.Place.{Place}
use Rattle.orc_heap.specs.declared.events.Place.TheVariants.{Next, Side}

-- each of these events is allowed where it stands, after what was seen
abbrev pub AllAllowed : {N : Type 0} → (List (Event N) → Event N → Type 0) → List (Event N) → List (Event N) → Type 0
AllAllowed may seen [] = Unit {0}
AllAllowed may seen (e ∷ es) = may seen e × AllAllowed may (seen ++ e ∷ []) es

-- the events of this agent
abbrev pub events_by : {N : Type 0} → ℕ → List (Event N) → List (Event N)
events_by agent es = filter (λ e. e.agent == agent) es

-- what was seen may go on with these events: they are of other agents, and each is allowed where it stands
pub record Later {N : Type 0} (may : List (Event N) → Event N → Type 0) (agent : ℕ) (seen more : List (Event N)) : Type 0 where
  pub allowed : AllAllowed may seen more
  pub others : events_by agent more ≡ []

-- in every later journal of the agent, wherever the place shows the link, the event is allowed
abbrev pub AllowedLater : {N : Type 0} → (List (Event N) → Event N → Type 0) → HeapNumbers → ℕ → List (Event N) → Place → Link → Event N → Type 0
AllowedLater {N} may n agent seen place link e =
    (more : List (Event N)) → Later may agent seen more → shown (run_heap n (seen ++ more)) place ≡ Some link → may (seen ++ more) e

-- in every later journal of the agent, wherever the event fits, it is allowed
abbrev pub AllowedWhereFits : {N : Type 0} → (List (Event N) → Event N → Type 0) → HeapNumbers → ℕ → List (Event N) → Event N → Type 0
AllowedWhereFits {N} may n agent seen e =
    (more : List (Event N)) → Later may agent seen more → FitsAfter n (seen ++ more) e → may (seen ++ more) e

-- a once linked node
pub record IsLinkedNode (h : Heap) (id : ℕ) : Type 0 where
  pub node : Node
  pub there : slice_get h.nodes id ≡ Some node
  pub linked : node.linked ≡ true

-- a once linked node with this first link
pub record HasLink (h : Heap) (id : ℕ) (link : Link) : Type 0 where
  pub node : Node
  pub there : slice_get h.nodes id ≡ Some node
  pub linked : node.linked ≡ true
  pub link_is : node.link ≡ link

-- if the act is a Move, its place is a root or a link of a once linked node
abbrev pub MovesLinked : Act → Heap → Type 0
MovesLinked (Move (Next id) from to) h = IsLinkedNode h id
MovesLinked (Move (Side id) from to) h = IsLinkedNode h id
MovesLinked act h = Unit {0}

-- the link is null, or names a once linked node of a greater rank than the node of this id
abbrev pub LeadsUp : (ℕ → ℕ) → Heap → ℕ → Link → Type 0
LeadsUp rank h id link = (link.to ≡ None) ⊎ ((next : ℕ) × (link.to ≡ Some next) × IsLinkedNode h next × (rank id < rank next))

-- each link of each once linked node does so: the first, and the second where nodes have two
abbrev pub Rises : (ℕ → ℕ) → Heap → Type 0
Rises rank h = (id : ℕ) (n : Node) → slice_get h.nodes id ≡ Some n → n.linked ≡ true
    → LeadsUp rank h id n.link × (1 < h.links → LeadsUp rank h id n.side)

-- the node's second link, if there is one, is null
abbrev pub HasNullSide : Heap → ℕ → Type 0
HasNullSide h id = (link : Link) → shown h (Side id) ≡ Some link → link ≡ null

-- so is that of each once linked node
abbrev pub AreSidesNull : Heap → Type 0
AreSidesNull h = (id : ℕ) → IsLinkedNode h id → HasNullSide h id
