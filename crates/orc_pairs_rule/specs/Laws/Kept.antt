-- What the discipline owes to the traits of disciplines.
use Rattle.std.proofs.Common.{List, None, Option, Some, [], ap, arith, false, inl, inr, subst, sym, true, ℕ, ◌++◌, ◌∙◌, ◌∷◌, ◌≡◌}
use Rattle.std.specs.List.{slice_get}
use Rattle.std.specs.Prelude.{if◌then◌else◌, is_some}
use Rattle.orc_heap.proofs.Before.{linked_before}
use Rattle.orc_heap.proofs.OwnEntries.{noted-snoc}
use Rattle.orc_heap.proofs.Runs.{lawful-snoc, run_heap-snoc}
use Rattle.orc_heap.proofs.SingleActs.{some_same}
use Rattle.orc_heap.specs.Acts.{as_linked, heap_after}
use Rattle.orc_heap.specs.Allowed.{LeadsUp, MovesLinked, Rises}
use Rattle.orc_heap.specs.Heap.{Heap, HeapNumbers, Node, link_to, null}
use Rattle.orc_heap.specs.Journals.{FitsAfter, IsPlain, IsPlainAct, event_by, moves_to, names_node, run_heap}
use Rattle.orc_heap.specs.declared.events.Act.{Act}
use Rattle.orc_heap.specs.declared.events.Act.TheVariants.{Move}
use Rattle.orc_heap.specs.declared.events.Event.{Event}
use Rattle.orc_heap.specs.declared.events.Link.{Link}
use Rattle.orc_heap.specs.declared.events.Place.TheVariants.{Next, Root, Side}
use Rattle.orc_pairs_rule.specs.declared.entry.CellEntry.TheVariants.{Published}
use Rattle.orc_pairs_rule.specs.declared.pairs.PairsNote.{PairsNote}
use Rattle.orc_pairs_rule.specs.declared.pairs.PairsNote.TheVariants.{Entry}
use Rattle.orc_pairs_rule.specs.CellHistory.{Parts}
use Rattle.orc_pairs_rule.specs.PairsDiscipline.{HasLinks, HasPart, IsNoMove, IsOfCell, IsPart, MayAct, MayEnter, PairsHolds, PairsMay, entries_in, entries_of, pairs_rank, rank_in}
use Rattle.orc_pairs_rule.specs.Laws.Histories.{legal_more}
use Rattle.orc_pairs_rule.specs.Laws.Kinds.{each_kind}
use Rattle.orc_pairs_rule.specs.Laws.Nodes.{MovesRoot, links_next, linked_stays, moves_root, names, parts_next, side_kept, target_after}
use Rattle.orc_pairs_rule.specs.Laws.Lists.{split_more}
use Rattle.orc_pairs_rule.specs.Laws.Shown.{marks_next, shows_next}

plain_no_move : (act : Act) → IsPlainAct act → IsNoMove act
plain_no_move (Move place from to) p = absurd p
plain_no_move act p = tt

-- an event without a note is allowed, if it fits and is no Move
pub unnoted_allowed : (n : HeapNumbers) (seen : List (Event PairsNote)) (e : Event PairsNote) → FitsAfter n seen e → e.note ≡ None → IsNoMove e.act
    → PairsMay n seen e
unnoted_allowed n seen e fits none no_move = record {
  fits = fits;
  may_act = subst (λ (x : Option PairsNote). MayAct (run_heap n seen) e.agent e.act x) (sym none) no_move;
  may_enter = subst (λ (x : Option PairsNote). MayEnter (entries_of seen) e.agent x) (sym none) tt;
}

pub pairs_allows_plain : (n : HeapNumbers) (seen : List (Event PairsNote)) (e : Event PairsNote) → PairsHolds n seen → FitsAfter n seen e → IsPlain e
    → PairsMay n seen e
pairs_allows_plain n seen e holds fits plain = unnoted_allowed n seen e fits plain.0 (plain_no_move e.act plain.1)

root_linked : (act : Act) (h : Heap) → MovesRoot act → MovesLinked act h
root_linked (Move (Next id) from to) h m = absurd m
root_linked (Move (Side id) from to) h m = absurd m
root_linked act h m = tt

pub pairs_moves_linked : (n : HeapNumbers) (seen : List (Event PairsNote)) (e : Event PairsNote) → PairsHolds n seen → PairsMay n seen e
    → MovesLinked e.act (run_heap n seen)
pairs_moves_linked n seen e holds may = root_linked e.act (run_heap n seen) (moves_root (run_heap n seen) e.agent e.act e.note may.may_act)

-- what kind of node a once linked node is

none_to : (act : Act) (id : ℕ) → IsNoMove act → moves_to act id ≡ true → ⊥
none_to (Move place from to) id m e = m
none_to act id m e = cc

null_names : (to : Link) (id : ℕ) → to ≡ null → names_node to.to id ≡ true → ⊥
null_names to id is named = let bad : false ≡ true = subst (λ (l : Link). names_node l.to id ≡ true) is named in cc

-- the node that the event links for the first time
linked_is : (n : HeapNumbers) (es : List (Event PairsNote)) (agent r m id : ℕ) (from to : Link) (node old : Node) → to ≡ link_to m
    → slice_get (run_heap n es).nodes m ≡ Some old → names_node to.to id ≡ true
    → slice_get (heap_after agent (Move (Root r) from to) (run_heap n es)).nodes id ≡ Some node → as_linked old ≡ node
linked_is n es agent r m id from to node old to_is was named there =
    let h = run_heap n es in
    let same : m ≡ id = names to m id to_is named in
    some_same (sym (target_after agent r m from to h old to_is was)
    ∙ (ap (λ (i : ℕ). slice_get (heap_after agent (Move (Root r) from to) h).nodes i) same ∙ there))

newly_linked : (n : HeapNumbers) (es : List (Event PairsNote)) (e : Event PairsNote) (id : ℕ) (node : Node) → PairsMay n es e
    → slice_get (heap_after e.agent e.act (run_heap n es)).nodes id ≡ Some node → moves_to e.act id ≡ true
    → IsOfCell (run_heap n (es ++ e ∷ [])) node
newly_linked n es e id node may =
    let h = run_heap n es in
    each_kind h e.agent (λ act noted. let x : Event PairsNote = event_by e.agent act noted in PairsMay n es x
    → slice_get (heap_after e.agent act h).nodes id ≡ Some node → moves_to act id ≡ true → IsOfCell (run_heap n (es ++ x ∷ [])) node)
    (λ act m k there moves. absurd (none_to act id m moves))
    (λ r from to m k there moves.
    let is = linked_is n es e.agent r m.id id from to node m.node m.to_is m.there moves there in
    inl (m.value, subst (λ (x : Node). IsPart x m.value) is (record { value_is = m.part.value_is; link_is = m.part.link_is; side_is = m.part.side_is })))
    (λ r from to m k there moves. absurd (null_names to id m.to_is moves))
    (λ r from to by left right x y m k there moves.
    let v : Event PairsNote = event_by e.agent (Move (Root r) from to) (Some (Entry (Published by left right x y))) in
    let is = linked_is n es e.agent r m.id id from to node m.node m.to_is m.there moves there in
    let p : Parts = record { left = x; right = y } in
    inr (m.left, m.right, p, parts_next n es v k m.node node m.left m.right p (ap (λ (z : Node). z.link) (sym is)) (ap (λ (z : Node). z.side) (sym is)) m.pair))
    (λ place link by x y k there moves. let bad : false ≡ true = moves in cc)
    e.act e.note may.may_act may

kinds_next : (n : HeapNumbers) (es : List (Event PairsNote)) (e : Event PairsNote) (id : ℕ) (node : Node) → PairsHolds n es → PairsMay n es e
    → slice_get (run_heap n (es ++ e ∷ [])).nodes id ≡ Some node → node.linked ≡ true → IsOfCell (run_heap n (es ++ e ∷ [])) node
kinds_next n es e id node holds may there linked =
    let h = run_heap n es in
    let at = ap (λ g. slice_get g.nodes id) (sym (run_heap-snoc n es e)) ∙ there in
    elim (linked_before e.agent e.act h id node at linked) [
      | inl was ↦
          let s = linked_stays n es e may id was.node was.there was.linked in
          let same : s.node ≡ node = some_same (sym s.there ∙ there) in
          let side_same : node.side ≡ was.node.side = side_kept n es e may id was.node node was.there was.linked there in
          elim (holds.kinds id was.node was.there was.linked) [
            | inl part ↦ inl (
              part.0,
              record {
                value_is = ap (λ (z : Node). z.first) (sym same) ∙ (s.first ∙ part.1.value_is);
                link_is = ap (λ (z : Node). z.link) (sym same) ∙ (s.link_is ∙ part.1.link_is);
                side_is = side_same ∙ part.1.side_is;
              },
            )
            | inr pair ↦ inr (
              pair.0,
              pair.1,
              pair.2,
              parts_next n es e may was.node node pair.0 pair.1 pair.2 (ap (λ (z : Node). z.link) (sym same) ∙ s.link_is)
                  side_same pair.3,
            )
          ]
      | inr by ↦ newly_linked n es e id node may at by.moves
    ]

frozen_next : (n : HeapNumbers) (es : List (Event PairsNote)) (e : Event PairsNote) (before after : List (Event PairsNote)) (id : ℕ) (link side : Link)
    → PairsHolds n es → PairsMay n es e → es ++ e ∷ [] ≡ before ++ after → HasLinks (run_heap n before) id link side
    → HasLinks (run_heap n (es ++ e ∷ [])) id link side
frozen_next n es e before after id link side holds may split l =
    elim (split_more es e before after split) [
      | inl whole ↦ subst (λ (xs : List (Event PairsNote)). HasLinks (run_heap n xs) id link side) whole l
      | inr rest ↦ links_next n es e may id link side (holds.frozen before rest.0 id link side rest.2 l)
    ]

-- an event that is allowed keeps what the events of a cell obey
pub pairs_keeps : (n : HeapNumbers) (seen : List (Event PairsNote)) (e : Event PairsNote) → PairsHolds n seen → PairsMay n seen e
    → PairsHolds n (seen ++ e ∷ [])
pairs_keeps n seen e holds may = record {
  lawful = lawful-snoc n seen e holds.lawful may.fits;
  legal = rw (noted-snoc entries_in seen e) (legal_more (entries_of seen) e.agent e.note holds.legal may.may_enter);
  unmarked = marks_next n seen e holds.unmarked may;
  shows = shows_next n seen e holds may;
  kinds = λ id node there linked. kinds_next n seen e id node holds may there linked;
  frozen = λ before after id link side split l. frozen_next n seen e before after id link side holds may split l;
}

-- links lead from pairs to parts

rank_of : (h : Heap) (id : ℕ) (node : Node) → slice_get h.nodes id ≡ Some node → rank_in (slice_get h.nodes id) ≡ (if is_some node.link.to then 0 else 1)
rank_of h id node there = ap rank_in there

leads_up : (n : HeapNumbers) (seen : List (Event PairsNote)) (id part value : ℕ) (link : Link) → pairs_rank n seen id ≡ 0 → link ≡ link_to part
    → HasPart (run_heap n seen) part value → LeadsUp (pairs_rank n seen) (run_heap n seen) id link
leads_up n seen id part value link zero_is is p =
    let one : pairs_rank n seen part ≡ 1 =
    rank_of (run_heap n seen) part p.node p.there ∙ ap (λ (l : Link). if is_some l.to then 0 else 1) p.part.link_is in
    inr (part, ap (λ (l : Link). l.to) is, record { node = p.node; there = p.there; linked = p.linked }, omega (arith, zero_is, one))

pub pairs_rises : (n : HeapNumbers) (seen : List (Event PairsNote)) → PairsHolds n seen → Rises (pairs_rank n seen) (run_heap n seen)
pairs_rises n seen holds = λ id node there linked.
    elim (holds.kinds id node there linked) [
      | inl part ↦ (inl (ap (λ (l : Link). l.to) part.1.link_is), (λ two. inl (ap (λ (l : Link). l.to) part.1.side_is)))
      | inr pair ↦
          let p = pair.3 in
          let zero_is : pairs_rank n seen id ≡ 0 =
          rank_of (run_heap n seen) id node there ∙ ap (λ (l : Link). if is_some l.to then 0 else 1) p.link_is in (
            leads_up n seen id pair.0 pair.2.left node.link zero_is p.link_is p.left_part,
            (λ two. leads_up n seen id pair.1 pair.2.right node.side zero_is p.side_is p.right_part),
          )
    ]
