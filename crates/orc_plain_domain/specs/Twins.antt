-- A small discipline over nodes with two links, for tests: roots are moved, and links of once linked nodes never.
use Rattle.std.specs.Prelude.{List, None, Some, [], slice_get, true, ℕ, ◌∷◌, ◌≡◌}
use Rattle.orc_heap.specs.Acts.{heap_after}
use Rattle.orc_heap.specs.Heap.{Heap, HeapNumbers, Node, new_heap}
use Rattle.orc_heap.specs.Journals.{FitsAfter, IsLawful}
use Rattle.orc_heap.specs.declared.events.Act.{Act}
use Rattle.orc_heap.specs.declared.events.Act.TheVariants.{Move}
use Rattle.orc_heap.specs.declared.events.Event.{Event}
use Rattle.orc_heap.specs.declared.events.Link.{Link}
use Rattle.orc_heap.specs.declared.events.Place.TheVariants.{Root}

-- a once linked node with these two links
pub record HasLinks (h : Heap) (id : ℕ) (link side : Link) : Type 0 where
  pub node : Node
  pub there : slice_get h.nodes id ≡ Some node
  pub linked : node.linked ≡ true
  pub link_is : node.link ≡ link
  pub side_is : node.side ≡ side

-- each node that is once linked in the first heap is so in the second one, with the same links
abbrev pub KeepsLinks : Heap → Heap → Type 0
KeepsLinks h k = (id : ℕ) (node : Node) → slice_get h.nodes id ≡ Some node → node.linked ≡ true → HasLinks k id node.link node.side

-- no event changes a link of a once linked node
abbrev pub NoLinkChanges : {N : Type 0} → Heap → List (Event N) → Type 0
NoLinkChanges h [] = Unit {0}
NoLinkChanges h (e ∷ es) = KeepsLinks h (heap_after e.agent e.act h) × NoLinkChanges (heap_after e.agent e.act h) es

-- what the events obey
pub record TwinsHold {N : Type 0} (n : HeapNumbers) (es : List (Event N)) : Type 0 where
  pub lawful : IsLawful n es
  pub steady : NoLinkChanges (new_heap n) es

-- if the act is a Move, it is one of a root
abbrev pub MovesRoot : Act → Type 0
MovesRoot (Move (Root r) from to) = Unit {0}
MovesRoot (Move place from to) = ⊥
MovesRoot act = Unit {0}

-- what the discipline allows
pub record TwinsMay {N : Type 0} (n : HeapNumbers) (es : List (Event N)) (e : Event N) : Type 0 where
  pub fits : FitsAfter n es e
  pub of_root : MovesRoot e.act
  pub plain : e.note ≡ None
