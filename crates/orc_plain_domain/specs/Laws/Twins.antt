-- What the discipline for tests owes to the trait of disciplines.
use Rattle.std.proofs.Common.{List, [], ap, refl, sym, ℕ, ◌++◌, ◌∙◌, ◌∷◌, ◌≡◌}
use Rattle.orc_heap.proofs.Fresh.{node-after, touched}
use Rattle.orc_heap.proofs.Linked.{linked_after, side_after}
use Rattle.orc_heap.proofs.Runs.{lawful-snoc}
use Rattle.orc_heap.proofs.SingleActs.{some_same}
use Rattle.orc_heap.specs.Acts.{Fits, heap_after, moved_link, moved_side}
use Rattle.orc_heap.specs.Allowed.{MovesLinked}
use Rattle.orc_heap.specs.Heap.{Heap, HeapNumbers, Node, new_heap}
use Rattle.orc_heap.specs.Journals.{FitsAfter, IsPlain, IsPlainAct, run_from, run_heap}
use Rattle.orc_heap.specs.declared.events.Act.{Act}
use Rattle.orc_heap.specs.declared.events.Act.TheVariants.{Move}
use Rattle.orc_heap.specs.declared.events.Event.{Event}
use Rattle.orc_heap.specs.declared.events.Link.{Link}
use Rattle.orc_heap.specs.declared.events.Place.TheVariants.{Next, Side}
use Rattle.orc_plain_domain.specs.Twins.{KeepsLinks, MovesRoot, NoLinkChanges, TwinsHold, TwinsMay}

same_links : (act : Act) (id : ℕ) (link side : Link) → MovesRoot act → (moved_link act id link ≡ link) × (moved_side act id side ≡ side)
same_links (Move (Next i) from to) id link side root = absurd root
same_links (Move (Side i) from to) id link side root = absurd root
same_links act id link side root = (refl, refl)

-- an act that moves no link of a node keeps those of once linked nodes
links_kept : (agent : ℕ) (act : Act) (h : Heap) → Fits agent act h → MovesRoot act → KeepsLinks h (heap_after agent act h)
links_kept agent act h fits root id node there linked =
    let s = linked_after agent act h id node fits there linked in
    let (link, side) = same_links act id node.link node.side root in
    let same : s.node ≡ touched act id node = some_same (sym s.there ∙ node-after agent act h id node there) in
    record {
      node = s.node;
      there = s.there;
      linked = s.linked;
      link_is = s.link_is ∙ link;
      side_is = ap (λ (x : Node). x.side) same ∙ (side_after agent act h id node fits there linked ∙ side);
    }

steady-snoc : {N : Type 0} (h : Heap) (es : List (Event N)) (e : Event N) → NoLinkChanges h es
    → KeepsLinks (run_from h es) (heap_after e.agent e.act (run_from h es)) → NoLinkChanges h (es ++ e ∷ [])
steady-snoc h [] e steady kept = (kept, tt)
steady-snoc h (x ∷ es) e steady kept = (steady.0, steady-snoc (heap_after x.agent x.act h) es e steady.1 kept)

pub twins_keep : {N : Type 0} (n : HeapNumbers) (seen : List (Event N)) (e : Event N) → TwinsHold n seen → TwinsMay n seen e → TwinsHold n (seen ++ e ∷ [])
twins_keep n seen e holds may = record {
  lawful = lawful-snoc n seen e holds.lawful may.fits;
  steady = steady-snoc (new_heap n) seen e holds.steady (links_kept e.agent e.act (run_heap n seen) may.fits may.of_root);
}

pub twins_fit : {N : Type 0} (n : HeapNumbers) (seen : List (Event N)) (e : Event N) → TwinsHold n seen → TwinsMay n seen e → FitsAfter n seen e
twins_fit n seen e holds may = may.fits

plain_of_root : (act : Act) → IsPlainAct act → MovesRoot act
plain_of_root (Move place from to) plain = absurd plain
plain_of_root act plain = tt

pub twins_allow_plain : {N : Type 0} (n : HeapNumbers) (seen : List (Event N)) (e : Event N) → TwinsHold n seen → FitsAfter n seen e → IsPlain e
    → TwinsMay n seen e
twins_allow_plain n seen e holds fits plain = record { fits = fits; of_root = plain_of_root e.act plain.1; plain = plain.0 }

root_moves_linked : (act : Act) (h : Heap) → MovesRoot act → MovesLinked act h
root_moves_linked (Move (Next id) from to) h root = absurd root
root_moves_linked (Move (Side id) from to) h root = absurd root
root_moves_linked act h root = tt

pub twins_move_linked : {N : Type 0} (n : HeapNumbers) (seen : List (Event N)) (e : Event N) → TwinsHold n seen → TwinsMay n seen e
    → MovesLinked e.act (run_heap n seen)
twins_move_linked n seen e holds may = root_moves_linked e.act (run_heap n seen) may.of_root
