-- How the words of a state show a heap.
use Rattle.std.specs.Prelude.{Some, false, true, length, slice_get, ℕ, ◌<◌, ◌≡◌}
use Rattle.orc_core.specs.Counts.{links_to}
use Rattle.orc_core.specs.Machine.{Machine, record_at, word_in}
use Rattle.orc_core.specs.RecordParts.{holds, names, slot_of}
use Rattle.orc_heap.specs.Acts.{IsFresh, IsKnown}
use Rattle.orc_heap.specs.Heap.{Heap, Node, shown}
use Rattle.orc_heap.specs.declared.events.Place.TheVariants.{Next as NodePlace, Root as RootPlace, Side as SidePlace}
use Rattle.orc_projection.specs.PresentIds.{PresentIds, node_link}
use Rattle.orc_sound.specs.Doomed.{cuts_past}
use Rattle.orc_sound.specs.Linked.{IsOut}
use Rattle.orc_words.specs.Packed.{link_of}
use Rattle.orc_words.specs.declared.place.Word.TheVariants.{First, Next, Root, Second, Side}
-- the numbers of the heap that a table of these bounds shows
pub use Rattle.orc_any_domain.specs.Domains.{heap_numbers as numbers_of}

-- an Aim, an AimSide or a Move made a link to the node
pub record IsNamed (h : Heap) (id : ℕ) : Type 0 where
  pub node : Node
  pub there : slice_get h.nodes id ≡ Some node
  pub named : node.named ≡ true

-- the words show the heap, with rows read as their present nodes
pub record Mirrors (m : Machine) (p : PresentIds) (h : Heap) : Type 0 where
  -- as many nodes were given as the heap has
  pub given : length h.nodes ≡ p.given
  -- a row that is out is one of its nodes, and different rows are different nodes
  pub there : (r : ℕ) → IsOut m r → p.node r < p.given
  pub apart : (q r : ℕ) → IsOut m q → IsOut m r → p.node q ≡ p.node r → q ≡ r
  -- a root's link has the mark of the heap's link, and its target row's present node is that link's target
  pub roots : (i : ℕ) → i < m.bounds.roots → shown h (RootPlace i) ≡ Some (node_link p (link_of (word_in m (Root i))))
  -- so has each link of a row that is out, unless that link was taken out to free the row
  pub nexts : (r : ℕ) → IsOut m r → ((a : ℕ) → a < m.bounds.agents → cuts_past (record_at m a).doom r 0 ≡ false)
      → shown h (NodePlace (p.node r)) ≡ Some (node_link p (link_of (word_in m (Next r))))
  pub sides : (r : ℕ) → 1 < m.bounds.links → IsOut m r → ((a : ℕ) → a < m.bounds.agents → cuts_past (record_at m a).doom r 1 ≡ false)
      → shown h (SidePlace (p.node r)) ≡ Some (node_link p (link_of (word_in m (Side r))))
  -- a value word of a row that is out is the value of its present node, where that value was filled
  pub first : (r v : ℕ) (n : Node) → IsOut m r → slice_get h.nodes (p.node r) ≡ Some n → n.first ≡ Some v → word_in m (First r) ≡ v
  pub second : (r v : ℕ) (n : Node) → IsOut m r → slice_get h.nodes (p.node r) ≡ Some n → n.second ≡ Some v → word_in m (Second r) ≡ v
  -- an agent's fresh row is a node that was given to the agent and to which no Move made a link
  pub fresh : (a r : ℕ) → names (record_at m a).fresh r ≡ true → IsFresh a h (p.node r)
  -- what an agent holds in a slot from 1 on is known to it: it was given to the agent, or a link was made to it
  pub held : (a k r : ℕ) → 0 < k → holds (slot_of (record_at m a) k) r ≡ true → IsKnown a h (p.node r)
  -- the target of a root, and of a link of a row that is out, is a node to which a link was made
  pub root_named : (i r : ℕ) → i < m.bounds.roots → links_to (word_in m (Root i)) r ≡ true → IsNamed h (p.node r)
  pub next_named : (q r : ℕ) → IsOut m q → links_to (word_in m (Next q)) r ≡ true → IsNamed h (p.node r)
  pub side_named : (q r : ℕ) → 1 < m.bounds.links → IsOut m q → links_to (word_in m (Side q)) r ≡ true → IsNamed h (p.node r)
