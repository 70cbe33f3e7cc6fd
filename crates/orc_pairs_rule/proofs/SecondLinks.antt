-- The second link of a node, where nodes have two links.
use Rattle.std.proofs.Common.{List, Some, [], arith, refl, ℕ, ◌∙◌, ◌∷◌, ◌≡◌}
use Rattle.std.specs.List.{slice_get}
use Rattle.orc_heap.proofs.Moved.{same_links}
use Rattle.orc_heap.proofs.Sides.{side_there}
use Rattle.orc_heap.specs.Acts.{heap_after}
use Rattle.orc_heap.specs.Heap.{Heap, HeapNumbers, Node, new_heap, shown}
use Rattle.orc_heap.specs.Journals.{run_from, run_heap}
use Rattle.orc_heap.specs.declared.events.Event.{Event}
use Rattle.orc_heap.specs.declared.events.Place.TheVariants.{Side}

links_from : {N : Type 0} (h : Heap) (es : List (Event N)) → (run_from h es).links ≡ h.links
links_from h [] = refl
links_from h (e ∷ es) = links_from (heap_after e.agent e.act h) es ∙ same_links e.agent e.act h

-- it is what the node's place shows
pub side_shows : {N : Type 0} (n : HeapNumbers) (es : List (Event N)) (id : ℕ) (node : Node) → n.links ≡ 2 → slice_get (run_heap n es).nodes id ≡ Some node
    → shown (run_heap n es) (Side id) ≡ Some node.side
side_shows n es id node two there =
    side_there (run_heap n es) id node (let same = links_from (new_heap n) es in omega (arith, same, two)) there
