-- What an allowed event leaves of once linked nodes, and which nodes it links.
use Rattle.std.proofs.Common.{Bool, List, Option, Some, [], ap, refl, subst, sym, true, ℕ, ◌++◌, ◌∙◌, ◌∷◌, ◌≡◌}
use Rattle.std.proofs.lemmas.Bool.{eq-eqb, eqb-true}
use Rattle.std.specs.List.{slice_get}
use Rattle.std.specs.Prelude.{if◌then◌else◌}
use Rattle.orc_heap.proofs.Fresh.{node-after, touched}
use Rattle.orc_heap.proofs.Linked.{linked_after, side_after}
use Rattle.orc_heap.proofs.Runs.{run_heap-snoc}
use Rattle.orc_heap.proofs.SingleActs.{some_same}
use Rattle.orc_heap.specs.Acts.{StaysLinked, as_linked, heap_after, moved_link, moved_side}
use Rattle.orc_heap.specs.Heap.{Heap, HeapNumbers, Node, link_to}
use Rattle.orc_heap.specs.Journals.{names_node, run_heap}
use Rattle.orc_heap.specs.declared.events.Act.{Act}
use Rattle.orc_heap.specs.declared.events.Act.TheVariants.{Move}
use Rattle.orc_heap.specs.declared.events.Event.{Event}
use Rattle.orc_heap.specs.declared.events.Link.{Link}
use Rattle.orc_heap.specs.declared.events.Place.TheVariants.{Next, Root, Side}
use Rattle.orc_pairs_rule.specs.declared.pairs.PairsNote.{PairsNote}
use Rattle.orc_pairs_rule.specs.CellHistory.{Parts}
use Rattle.orc_pairs_rule.specs.PairsDiscipline.{HasLinks, HasPair, HasPart, IsNoMove, IsPair, MayAct, PairsMay}
use Rattle.orc_pairs_rule.specs.Laws.Kinds.{each_kind}

-- if the act is a Move, it is one of a root
abbrev pub MovesRoot : Act → Type 0
MovesRoot (Move (Next id) from to) = ⊥
MovesRoot (Move (Side id) from to) = ⊥
MovesRoot act = Unit {0}

no_move_moves_root : (act : Act) → IsNoMove act → MovesRoot act
no_move_moves_root (Move place from to) m = absurd m
no_move_moves_root act m = tt

pub moves_root : (h : Heap) (agent : ℕ) (act : Act) (noted : Option PairsNote) → MayAct h agent act noted → MovesRoot act
moves_root h agent act noted may =
    each_kind h agent (λ a o. MovesRoot a) (λ a m. no_move_moves_root a m) (λ r from to m. tt) (λ r from to m. tt) (λ r from to by l k x y m. tt)
    (λ place link by x y. tt)
    act noted may

-- then the links of a node stay
links_stay : (act : Act) (id : ℕ) (link side : Link) → MovesRoot act → (moved_link act id link ≡ link) × (moved_side act id side ≡ side)
links_stay (Move (Next i) from to) id link side m = absurd m
links_stay (Move (Side i) from to) id link side m = absurd m
links_stay act id link side m = (refl, refl)

module _ (n : HeapNumbers) (es : List (Event PairsNote)) (e : Event PairsNote) (may : PairsMay n es e) where
  -- a once linked node keeps its values and its first link
  pub linked_stays : (id : ℕ) (old : Node) → slice_get (run_heap n es).nodes id ≡ Some old → old.linked ≡ true
      → StaysLinked (run_heap n (es ++ e ∷ [])) id old old.link
  linked_stays id old there linked =
      let s = linked_after e.agent e.act (run_heap n es) id old may.fits there linked in
      rw (run_heap-snoc n es e) (record {
        node = s.node;
        there = s.there;
        linked = s.linked;
        giver = s.giver;
        first = s.first;
        second = s.second;
        link_is = s.link_is ∙ (links_stay e.act id old.link old.side (moves_root (run_heap n es) e.agent e.act e.note may.may_act)).0;
      })

  -- and its second link
  pub side_kept : (id : ℕ) (old node : Node) → slice_get (run_heap n es).nodes id ≡ Some old → old.linked ≡ true
      → slice_get (run_heap n (es ++ e ∷ [])).nodes id ≡ Some node → node.side ≡ old.side
  side_kept id old node there linked now =
      let h = run_heap n es in
      let is : touched e.act id old ≡ node =
      some_same (sym (node-after e.agent e.act h id old there) ∙ (ap (λ g. slice_get g.nodes id) (sym (run_heap-snoc n es e)) ∙ now)) in
      ap (λ (x : Node). x.side) (sym is)
      ∙ (side_after e.agent e.act h id old may.fits there linked
      ∙ (links_stay e.act id old.link old.side (moves_root h e.agent e.act e.note may.may_act)).1)

  pub links_next : (id : ℕ) (link side : Link) → HasLinks (run_heap n es) id link side → HasLinks (run_heap n (es ++ e ∷ [])) id link side
  links_next id link side l =
      let s = linked_stays id l.node l.there l.linked in
      let side_is = side_kept id l.node s.node l.there l.linked s.there in
      record { node = s.node; there = s.there; linked = s.linked; link_is = s.link_is ∙ l.link_is; side_is = side_is ∙ l.side_is }

  pub part_next : (id value : ℕ) → HasPart (run_heap n es) id value → HasPart (run_heap n (es ++ e ∷ [])) id value
  part_next id value p =
      let s = linked_stays id p.node p.there p.linked in
      let side_is = side_kept id p.node s.node p.there p.linked s.there in
      record {
        node = s.node;
        there = s.there;
        linked = s.linked;
        part = record { value_is = s.first ∙ p.part.value_is; link_is = s.link_is ∙ p.part.link_is; side_is = side_is ∙ p.part.side_is };
      }

  -- a pair's parts stay, and so does what its links name
  pub parts_next : (old node : Node) (left right : ℕ) (parts : Parts) → node.link ≡ old.link → node.side ≡ old.side
      → IsPair (run_heap n es) old left right parts → IsPair (run_heap n (es ++ e ∷ [])) node left right parts
  parts_next old node left right parts link_is side_is p = record {
    link_is = link_is ∙ p.link_is;
    side_is = side_is ∙ p.side_is;
    left_part = part_next left parts.left p.left_part;
    right_part = part_next right parts.right p.right_part;
  }

  pub pair_next : (id left right : ℕ) (parts : Parts) → HasPair (run_heap n es) id left right parts → HasPair (run_heap n (es ++ e ∷ [])) id left right parts
  pair_next id left right parts p =
      let s = linked_stays id p.node p.there p.linked in
      let side_is = side_kept id p.node s.node p.there p.linked s.there in
      record { node = s.node; there = s.there; linked = s.linked; pair = parts_next p.node s.node left right parts s.link_is side_is p.pair }

-- a node to which a Move of a root makes a link
pub target_after : (agent r id : ℕ) (from to : Link) (h : Heap) (node : Node) → to ≡ link_to id → slice_get h.nodes id ≡ Some node
    → slice_get (heap_after agent (Move (Root r) from to) h).nodes id ≡ Some (as_linked node)
target_after agent r id from to h node to_is there =
    subst (λ (l : Link). slice_get (heap_after agent (Move (Root r) from l) h).nodes id ≡ Some (as_linked node)) (sym to_is)
    (node-after agent (Move (Root r) from (link_to id)) h id node there
    ∙ ap (λ (b : Bool). Some (if b then as_linked node else node)) (eq-eqb id id refl))

pub names : (to : Link) (x id : ℕ) → to ≡ link_to x → names_node to.to id ≡ true → x ≡ id
names to x id to_is named = eqb-true x id (subst (λ (l : Link). names_node l.to id ≡ true) to_is named)
