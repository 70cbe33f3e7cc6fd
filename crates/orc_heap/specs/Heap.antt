-- A heap of linked nodes with new memory for every node. After Michael and Scott 1996 and Harris 2001.
use Rattle.std.specs.Prelude.{cond, nat_lt, List, None, Option, Some, [], false, replicate, slice_get, zero, Bool, suc, ℕ, ◌∷◌}
use Rattle.orc_heap.specs.declared.events.Link.{Link}
use Rattle.orc_heap.specs.declared.events.Place.{Place}
use Rattle.orc_heap.specs.declared.events.Place.TheVariants.{Next, Root, Side}
use Rattle.std.specs.Option.{option_map}

-- the numbers of a heap: its roots, and the links of a node
pub record HeapNumbers : Type 0 where
  pub roots : ℕ
  pub links : ℕ

-- a node: the agent to which it was given, its values, its first and second link, whether an Aim, an AimSide or a Move made a
-- link to it, and whether a Move did
pub record Node : Type 0 where
  pub giver : ℕ
  pub first : Option ℕ
  pub second : Option ℕ
  pub link : Link
  pub side : Link
  pub named : Bool
  pub linked : Bool

-- the nodes in the order in which they were given, the links of the roots, and the number of links of a node
pub record Heap : Type 0 where
  pub nodes : List Node
  pub roots : List Link
  pub links : ℕ

abbrev pub null : Link
null = record { to = None; mark = false }

-- an unmarked link to this node
abbrev pub link_to : ℕ → Link
link_to id = record { to = Some id; mark = false }

abbrev pub new_node : ℕ → Node
new_node agent = record { giver = agent; first = None; second = None; link = null; side = null; named = false; linked = false }

abbrev pub new_heap : HeapNumbers → Heap
new_heap n = record { nodes = []; roots = replicate n.roots null; links = n.links }

-- the link that the place shows, if the heap has the place; nodes with one link have no Side place
abbrev pub shown : Heap → Place → Option Link
shown h (Root r) = slice_get h.roots r
shown h (Next id) = option_map (λ n. n.link) (slice_get h.nodes id)
shown h (Side id) = cond (nat_lt 1 h.links) (option_map (λ n. n.side) (slice_get h.nodes id)) None

-- the list with the item of this index changed, if there is one
abbrev pub change : {A : Type 0} → (A → A) → ℕ → List A → List A
change f i [] = []
change f zero (x ∷ xs) = f x ∷ xs
change f (suc i) (x ∷ xs) = x ∷ change f i xs
