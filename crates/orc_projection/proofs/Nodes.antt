-- What is true of a node as others are changed or given.
use Rattle.std.proofs.Common.{List, ap, inl, inr, true, ℕ, ◌++◌, ◌≡◌, ◌≢◌, ◌⊎◌, false}
use Rattle.std.specs.List.{slice_get}
use Rattle.std.specs.Prelude.{None, Option, Some}
use Rattle.orc_heap.proofs.Changes.{get-change, get-change_same, get-grown}
use Rattle.orc_heap.specs.Acts.{IsFresh, IsKnown, change_target}
use Rattle.orc_heap.specs.Heap.{Heap, Node, change}
use Rattle.orc_projection.specs.Mirror.{IsNamed}

-- the heap has the node of this id, and it is so
pub record HasNode (nodes : List Node) (id : ℕ) (P : Node → Type 0) : Type 0 where
  pub node : Node
  pub there : slice_get nodes id ≡ Some node
  pub so : P node

pub node-map : {P Q : Node → Type 0} (ns : List Node) (id : ℕ) → ((n : Node) → P n → Q n) → HasNode ns id P → HasNode ns id Q
node-map ns id f h = record { node = h.node; there = h.there; so = f h.node h.so }

pub node-grown : {P : Node → Type 0} (ns ms : List Node) (id : ℕ) → HasNode ns id P → HasNode (ns ++ ms) id P
node-grown ns ms id h = record { node = h.node; there = get-grown id ns ms h.node h.there; so = h.so }

-- after a change of node i
pub node-change : {P Q : Node → Type 0} (f : Node → Node) (i id : ℕ) (ns : List Node) → ((n : Node) → i ≡ id → P n → Q (f n))
    → ((n : Node) → i ≢ id → P n → Q n)
    → HasNode ns id P → HasNode (change f i ns) id Q
node-change f i id ns same other h =
    elim (get-change f i id ns h.node h.there) [
      | inl r ↦ record { node = f h.node; there = r.1; so = same h.node r.0 h.so }
      | inr r ↦ record { node = h.node; there = r.1; so = other h.node r.0 h.so }
    ]

-- after a change of the target
pub node-target : {P : Node → Type 0} (f : Node → Node) (to : Option ℕ) (h : Heap) (id : ℕ) → ((n : Node) → to ≡ Some id → P n → P (f n))
    → HasNode h.nodes id P → HasNode (change_target f to h).nodes id P
node-target f None h id k n = n
node-target f (Some i) h id k n = node-change f i id h.nodes (λ x e. k x (ap Some e)) (λ x ne r. r) n

-- the target itself
pub node-aimed : {P Q : Node → Type 0} (f : Node → Node) (to : Option ℕ) (h : Heap) (id : ℕ) → to ≡ Some id → ((n : Node) → P n → Q (f n))
    → HasNode h.nodes id P → HasNode (change_target f to h).nodes id Q
node-aimed f to h id e k n = rw e (record { node = f n.node; there = get-change_same f id h.nodes n.node n.there; so = k n.node n.so })

-- a node that was given to the agent, or to which an Aim or a Move made a link; to which no Move made a link
pub record Known (agent : ℕ) (n : Node) : Type 0 where
  pub known : (n.giver ≡ agent) ⊎ (n.named ≡ true)

pub record Named (n : Node) : Type 0 where
  pub named : n.named ≡ true

pub record Owned (agent : ℕ) (n : Node) : Type 0 where
  pub giver : n.giver ≡ agent
  pub unlinked : n.linked ≡ false

pub is_fresh : (a id : ℕ) (h : Heap) → HasNode h.nodes id (Owned a) → IsFresh a h id
is_fresh a id h k = record { node = k.node; there = k.there; mine = k.so.giver; unlinked = k.so.unlinked }

pub is_known : (a id : ℕ) (h : Heap) → HasNode h.nodes id (Known a) → IsKnown a h id
is_known a id h k = record { node = k.node; there = k.there; known = k.so.known }

pub is_named : (id : ℕ) (h : Heap) → HasNode h.nodes id Named → IsNamed h id
is_named id h k = record { node = k.node; there = k.there; named = k.so.named }

pub named_known : (a : ℕ) (n : Node) → Named n → Known a n
named_known a n h = record { known = inr h.named }

pub owned_known : (a : ℕ) (n : Node) → Owned a n → Known a n
owned_known a n h = record { known = inl h.giver }
