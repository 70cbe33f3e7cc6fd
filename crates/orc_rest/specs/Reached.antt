-- The nodes to which the roots of a heap lead.
use Rattle.std.specs.List.{IsDistinct}
use Rattle.std.specs.Prelude.{Contains, List, Some, [], slice_get, ◌<◌, ◌==◌, ◌∷◌, ◌≡◌, ◌↔◌, ◌⊎◌, ℕ}
use Rattle.orc_heap.specs.Heap.{Heap, HeapNumbers, Node, shown}
use Rattle.orc_heap.specs.declared.events.Link.{Link}
use Rattle.orc_heap.specs.declared.events.Place.TheVariants.{Root}
use Rattle.orc_core.specs.Machine.{Machine}
use Rattle.orc_projection.specs.PresentIds.{PresentIds}
use Rattle.orc_sound.specs.Linked.{IsOut}

-- a root links the node
pub record IsRootTarget (n : HeapNumbers) (h : Heap) (id : ℕ) : Type 0 where
  pub root : ℕ
  pub link : Link
  pub below : root < n.roots
  pub shown : shown h (Root root) ≡ Some link
  pub to : link.to ≡ Some id

-- a link of node j names the node
pub record Leads (h : Heap) (j id : ℕ) : Type 0 where
  pub node : Node
  pub there : slice_get h.nodes j ≡ Some node
  pub to : (node.link.to ≡ Some id) ⊎ ((1 < h.links) × (node.side.to ≡ Some id))

-- links lead from a root over these nodes, the last of them first, to the node
abbrev pub IsPath : HeapNumbers → Heap → List ℕ → ℕ → Type 0
IsPath n h [] id = IsRootTarget n h id
IsPath n h (j ∷ js) id = IsPath n h js j × Leads h j id

-- links lead from some root to the node
pub record IsReached (n : HeapNumbers) (h : Heap) (id : ℕ) : Type 0 where
  pub path : List ℕ
  pub leads : IsPath n h path id

-- these are the nodes that are reached, each once
pub record AreTheReached (n : HeapNumbers) (h : Heap) (ids : List ℕ) : Type 0 where
  pub distinct : IsDistinct (λ x y. x == y) ids
  pub exactly : (id : ℕ) → Contains ids id ↔ IsReached n h id

-- the node is the present node of a row that is out, and of that row alone
pub record LiesInOneRow (m : Machine) (p : PresentIds) (id : ℕ) : Type 0 where
  pub row : ℕ
  pub is_out : IsOut m row
  pub is : p.node row ≡ id
  pub only : (r : ℕ) → IsOut m r → p.node r ≡ id → r ≡ row
