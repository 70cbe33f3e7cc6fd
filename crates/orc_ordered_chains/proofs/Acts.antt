-- What a Move and what any other act does to a heap.
use Rattle.std.proofs.Common.{Bool, List, Option, Some, None, [], ap, cond, false, inl, inr, nat_lt, refl, subst, suc, sym, true, zero, ℕ, ◌∙◌, ◌∷◌, ◌≡◌, ◌≢◌, ◌⊎◌}
use Rattle.std.proofs.lemmas.Bool.{cases_eq, eqb-true}
use Rattle.std.specs.List.{slice_get}
use Rattle.std.specs.Option.{option_map}
use Rattle.orc_heap.proofs.Before.{linked_before}
use Rattle.orc_heap.proofs.Changes.{get-change_other, get-change_same}
use Rattle.orc_heap.proofs.Linked.{linked_after}
use Rattle.orc_heap.proofs.Moved.{shown_after, shown_node}
use Rattle.orc_heap.proofs.SingleActs.{node_shown, some_same}
use Rattle.orc_heap.specs.Acts.{Fits, as_linked, change_target, heap_after, set_link, with_link, with_side}
use Rattle.orc_heap.specs.Allowed.{AreSidesNull, IsLinkedNode, MovesLinked}
use Rattle.orc_heap.specs.Heap.{Heap, Node, change, null, shown}
use Rattle.orc_heap.specs.Journals.{IsPlainAct, moves_to, names_node}
use Rattle.orc_heap.specs.Moves.{IsLinkedPlace, move_with}
use Rattle.orc_heap.specs.declared.events.Act.{Act}
use Rattle.orc_heap.specs.declared.events.Act.TheVariants.{Move}
use Rattle.orc_heap.specs.declared.events.Link.{Link}
use Rattle.orc_heap.specs.declared.events.Place.{Place}
use Rattle.orc_heap.specs.declared.events.Place.TheVariants.{Next, Root, Side}
use Rattle.orc_ordered_chains.specs.Chains.{HasRank, IsChainPlace, Order}

-- a once linked node keeps its values
pub record KeepsValues (h k : Heap) : Type 0 where
  pub stays : (id : ℕ) (l : IsLinkedNode h id)
      → (m : IsLinkedNode k id) × (m.node.first ≡ l.node.first) × (m.node.second ≡ l.node.second)

pub next_same : (i j : ℕ) → Next i ≡ Next j → i ≡ j
next_same i j e = cc

side_same : (i j : ℕ) → Side i ≡ Side j → i ≡ j
side_same i j e = cc

pub place_either : (p q : Place) → (p ≡ q) ⊎ (p ≢ q)
place_either (Root r) (Root s) = elim (cases_eq r s) [ inl e ↦ inl (ap (λ (x : ℕ). Root x) e) | inr ne ↦ inr (λ same. ne (cc)) ]
place_either (Next i) (Next j) = elim (cases_eq i j) [ inl e ↦ inl (ap (λ (x : ℕ). Next x) e) | inr ne ↦ inr (λ same. ne (cc)) ]
place_either (Side i) (Side j) = elim (cases_eq i j) [ inl e ↦ inl (ap (λ (x : ℕ). Side x) e) | inr ne ↦ inr (λ same. ne (cc)) ]
place_either p q = inr (λ same. cc)

pub values_after : (agent : ℕ) (act : Act) (h : Heap) → Fits agent act h → KeepsValues h (heap_after agent act h)
values_after agent act h fits = record {
  stays = λ id l.
      let s = linked_after agent act h id l.node fits l.there l.linked in
      (record { node = s.node; there = s.there; linked = s.linked }, s.first, s.second);
}

-- the heap after a Move: the place shows the new link, and nothing else changed but that its target is linked
pub record IsMoved (h k : Heap) (place : Place) (from to : Link) : Type 0 where
  pub at : shown h place ≡ Some from
  pub moved : shown k place ≡ Some to
  pub others : (q : Place) → q ≢ place → shown k q ≡ shown h q
  pub values : KeepsValues h k
  pub old : (id : ℕ) → IsLinkedNode k id → IsLinkedNode h id ⊎ (to.to ≡ Some id)

-- a change of nodes that keeps a part of each of them
part_change : (g : Node → Link) (f : Node → Node) → ((n : Node) → g (f n) ≡ g n) → (i id : ℕ) (ns : List Node)
    → option_map g (slice_get (change f i ns) id) ≡ option_map g (slice_get ns id)
part_change g f k i id [] = refl
part_change g f k zero zero (n ∷ ns) = ap (λ (l : Link). Some l) (k n)
part_change g f k zero (suc id) (n ∷ ns) = refl
part_change g f k (suc i) zero (n ∷ ns) = refl
part_change g f k (suc i) (suc id) (n ∷ ns) = part_change g f k i id ns

-- that a node is linked shows at no place
shown_linked : (to : Option ℕ) (h : Heap) (q : Place) → shown (change_target as_linked to h) q ≡ shown h q
shown_linked None h q = refl
shown_linked (Some i) h (Root r) = refl
shown_linked (Some i) h (Next id) = part_change (λ n. n.link) as_linked (λ n. refl) i id h.nodes
shown_linked (Some i) h (Side id) = ap (λ (o : Option Link). cond (nat_lt 1 h.links) o None) (part_change (λ n. n.side) as_linked (λ n. refl) i id h.nodes)

-- a second link that was set, where nodes have one
side_set : (t : Bool) (from to : Link) (i : ℕ) (ns : List Node) → cond t (option_map (λ (n : Node). n.side) (slice_get ns i)) None ≡ Some from
    → cond t (option_map (λ (n : Node). n.side) (slice_get (change (with_side to) i ns) i)) None ≡ Some to
side_set false from to i ns e = cc
side_set true from to i [] e = cc
side_set true from to zero (n ∷ ns) e = refl
side_set true from to (suc i) (n ∷ ns) e = side_set true from to i ns e

shown_set : (place : Place) (from to : Link) (h : Heap) → shown h place ≡ Some from → shown (set_link place to h) place ≡ Some to
shown_set (Root r) from to h at = get-change_same (λ (l : Link). to) r h.roots from at
shown_set (Next id) from to h at =
    let (n, there, is) = node_shown h id from at in
    shown_node (set_link (Next id) to h) id (with_link to n) (get-change_same (with_link to) id h.nodes n there)
shown_set (Side id) from to h at = side_set (nat_lt 1 h.links) from to id h.nodes at

shown_unset : (place q : Place) (to : Link) (h : Heap) → q ≢ place → shown (set_link place to h) q ≡ shown h q
shown_unset (Root r) (Root s) to h ne = get-change_other (λ (l : Link). to) r s h.roots (λ e. ne (ap (λ (x : ℕ). Root x) e))
shown_unset (Root r) (Next id) to h ne = refl
shown_unset (Root r) (Side id) to h ne = refl
shown_unset (Next id) (Root s) to h ne = refl
shown_unset (Next i) (Next j) to h ne =
    ap (option_map (λ (x : Node). x.link)) (get-change_other (with_link to) i j h.nodes (λ e. ne (ap (λ (x : ℕ). Next x) e)))
shown_unset (Next i) (Side j) to h ne =
    ap (λ (o : Option Link). cond (nat_lt 1 h.links) o None) (part_change (λ n. n.side) (with_link to) (λ n. refl) i j h.nodes)
shown_unset (Side id) (Root s) to h ne = refl
shown_unset (Side i) (Next j) to h ne = part_change (λ n. n.link) (with_side to) (λ n. refl) i j h.nodes
shown_unset (Side i) (Side j) to h ne =
    ap (λ (o : Option Node). cond (nat_lt 1 h.links) (option_map (λ (x : Node). x.side) o) None)
    (get-change_other (with_side to) i j h.nodes (λ e. ne (ap (λ (x : ℕ). Side x) e)))

named : (to : Option ℕ) (id : ℕ) → names_node to id ≡ true → to ≡ Some id
named None id e = cc
named (Some i) id e = ap (λ (x : ℕ). Some x) (eqb-true i id e)

pub move_moves : (agent : ℕ) (place : Place) (from to : Link) (h : Heap) → Fits agent (Move place from to) h
    → IsMoved h (heap_after agent (Move place from to) h) place from to
move_moves agent place from to h fits = record {
  at = fits.0;
  moved = shown_linked to.to (set_link place to h) place ∙ shown_set place from to h fits.0;
  others = λ q ne. shown_linked to.to (set_link place to h) q ∙ shown_unset place q to h ne;
  values = values_after agent (Move place from to) h fits;
  old = λ id l. elim (linked_before agent (Move place from to) h id l.node l.there l.linked) [
    | inl before ↦ inl before
    | inr by ↦ inr
        (named to.to id by.moves)
  ];
}

-- where a Move of an unmarked link leaves an unmarked one, what is unmarked stays so
module _ (h k : Heap) (p : Place) (from to : Link) (m : IsMoved h k p from to) (plain : from.mark ≡ false) (plain_after : to.mark ≡ false) where
  pub unmarked_before : (q : Place) (link : Link) → shown k q ≡ Some link → link.mark ≡ false → (own : Link) × (shown h q ≡ Some own) × (own.mark ≡ false)
  unmarked_before q link at unmarked = elim (place_either q p) [
    | inl same ↦ (from, subst (λ (z : Place). shown h z ≡ Some from) (sym same) m.at, plain)
    | inr ne ↦ (link, sym (m.others q ne) ∙ at, unmarked)
  ]

  pub unmarked_after : (q : Place) (link : Link) → shown h q ≡ Some link → link.mark ≡ false → (own : Link) × (shown k q ≡ Some own) × (own.mark ≡ false)
  unmarked_after q link at unmarked = elim (place_either q p) [
    | inl same ↦ (to, subst (λ (z : Place). shown k z ≡ Some to) (sym same) m.moved, plain_after)
    | inr ne ↦ (link, m.others q ne ∙ at, unmarked)
  ]

-- the node that a Move links, if it was never linked: its values and its links are as they were
pub record IsLinkedIn (h k : Heap) (id : ℕ) (node : Node) : Type 0 where
  pub now : IsLinkedNode k id
  pub first : now.node.first ≡ node.first
  pub second : now.node.second ≡ node.second
  pub shows : shown k (Next id) ≡ Some node.link
  pub side : shown k (Side id) ≡ shown h (Side id)

-- a once linked node is no node that was never linked
linked_apart : (h : Heap) (d id : ℕ) (node : Node) → IsLinkedNode h d → slice_get h.nodes id ≡ Some node → node.linked ≡ false → id ≢ d
linked_apart h d id node l there unlinked is =
    let one : l.node ≡ node = some_same (sym l.there ∙ (ap (λ (x : ℕ). slice_get h.nodes x) (sym is) ∙ there)) in
    let bad : true ≡ false = sym l.linked ∙ (ap (λ (x : Node). x.linked) one ∙ unlinked) in
    cc

-- nor does a linked place lie in it
unlinked_next : (h : Heap) (p : Place) (id : ℕ) (node : Node) → IsLinkedPlace p h → slice_get h.nodes id ≡ Some node → node.linked ≡ false → Next id ≢ p
unlinked_next h (Root r) id node l there unlinked same = cc
unlinked_next h (Next d) id node l there unlinked same = linked_apart h d id node l there unlinked (next_same id d same)
unlinked_next h (Side d) id node l there unlinked same = cc

unlinked_side : (h : Heap) (p : Place) (id : ℕ) (node : Node) → IsLinkedPlace p h → slice_get h.nodes id ≡ Some node → node.linked ≡ false → Side id ≢ p
unlinked_side h (Root r) id node l there unlinked same = cc
unlinked_side h (Next d) id node l there unlinked same = cc
unlinked_side h (Side d) id node l there unlinked same = linked_apart h d id node l there unlinked (side_same id d same)

pub move_links : (agent : ℕ) (p : Place) (from to : Link) (h : Heap) (id : ℕ) (node : Node) → Fits agent (Move p from to) h → IsLinkedPlace p h
    → to.to ≡ Some id → slice_get h.nodes id ≡ Some node → node.linked ≡ false → IsLinkedIn h (heap_after agent (Move p from to) h) id node
move_links agent p from to h id node fits l to_is at unlinked = record {
  now = record { node = as_linked node; there = there p l; linked = refl };
  first = refl;
  second = refl;
  shows = (move_moves agent p from to h fits).others (Next id) (unlinked_next h p id node l at unlinked) ∙ shown_node h id node at;
  side = (move_moves agent p from to h fits).others (Side id) (unlinked_side h p id node l at unlinked);
}
  where
    target : (g : Heap) → slice_get g.nodes id ≡ Some node → slice_get (change_target as_linked to.to g).nodes id ≡ Some (as_linked node)
    target g here =
        subst (λ (t : Option ℕ). slice_get (change_target as_linked t g).nodes id ≡ Some (as_linked node)) (sym to_is)
        (get-change_same as_linked id g.nodes node here)

    there : (p : Place) → IsLinkedPlace p h → slice_get (change_target as_linked to.to (set_link p to h)).nodes id ≡ Some (as_linked node)
    there (Root r) l = target (set_link (Root r) to h) at
    there (Next d) l =
        target (set_link (Next d) to h) (get-change_other (with_link to) d id h.nodes (linked_apart h d id node l at unlinked) ∙ at)
    there (Side d) l =
        target (set_link (Side d) to h) (get-change_other (with_side to) d id h.nodes (linked_apart h d id node l at unlinked) ∙ at)

-- any other act

-- the heap after such an act: links of roots and once linked nodes are as they were, and so are the values of those
pub record IsUnmoved (h k : Heap) : Type 0 where
  pub shows : (place : Place) → IsLinkedPlace place h → shown k place ≡ shown h place
  pub values : KeepsValues h k
  pub old : (id : ℕ) → IsLinkedNode k id → IsLinkedNode h id

no_move_to : (act : Act) (d : ℕ) → move_with act ≡ 0 → moves_to act d ≡ false
no_move_to (Move place from to) d p = cc
no_move_to act d p = refl

pub no_move_linked : (act : Act) (h : Heap) → move_with act ≡ 0 → MovesLinked act h
no_move_linked (Move place from to) h p = cc
no_move_linked act h p = tt

pub no_move_plain : (act : Act) → IsPlainAct act → move_with act ≡ 0
no_move_plain (Move place from to) p = absurd p
no_move_plain act p = refl

pub act_unmoved : (agent : ℕ) (act : Act) (h : Heap) → Fits agent act h → move_with act ≡ 0 → IsUnmoved h (heap_after agent act h)
act_unmoved agent act h fits plain = record {
  shows = λ place l. shown_after agent act h place fits l plain;
  values = values_after agent act h fits;
  old = λ id l. elim (linked_before agent act h id l.node l.there l.linked) [
    | inl before ↦ before
    | inr by ↦ let bad : true ≡ false = sym by.moves ∙ no_move_to act id plain in cc
  ];
}

-- second links

-- those that are null stay so
pub sides_unmoved : (h k : Heap) → IsUnmoved h k → AreSidesNull h → AreSidesNull k
sides_unmoved h k u null = λ id l link at. null id (u.old id l) link (sym (u.shows (Side id) (u.old id l)) ∙ at)

-- the values of a node that was linked before are those that it had
pub values_before : (h k : Heap) → KeepsValues h k → (id : ℕ) (l : IsLinkedNode h id) (node : Node) → slice_get k.nodes id ≡ Some node
    → (l.node.first ≡ node.first) × (l.node.second ≡ node.second)
values_before h k v id l node there =
    let (m, first, second) = v.stays id l in
    let same : m.node ≡ node = some_same (sym m.there ∙ there) in
    (sym first ∙ ap (λ (n : Node). n.first) same, sym second ∙ ap (λ (n : Node). n.second) same)

-- ranks

module _ (o : Order) where
  pub rank_linked : (h : Heap) (id rank : ℕ) → HasRank o h id rank → IsLinkedNode h id
  rank_linked h id rank k = record { node = k.node; there = k.there; linked = k.linked }

  pub rank_one : (h : Heap) (id a b : ℕ) → HasRank o h id a → HasRank o h id b → a ≡ b
  rank_one h id a b k l =
      let same : k.node ≡ l.node = some_same (sym k.there ∙ l.there) in
      some_same (sym k.rank_is ∙ (ap (λ (n : Node). o.rank n.first n.second) same ∙ l.rank_is))

  pub rank_stays : (h k : Heap) → KeepsValues h k → (id rank : ℕ) → HasRank o h id rank → HasRank o k id rank
  unfolding rank_linked
  rank_stays h k v id rank r =
      let (m, first, second) = v.stays id (rank_linked h id rank r) in
      record {
        node = m.node;
        there = m.there;
        linked = m.linked;
        rank_is = ap (λ (x : Option ℕ). o.rank x m.node.second) first ∙ (ap (λ (x : Option ℕ). o.rank r.node.first x) second ∙ r.rank_is);
      }

  -- the rank of a node that was linked before
  pub rank_before : (h k : Heap) → KeepsValues h k → (id rank : ℕ) → IsLinkedNode h id → HasRank o k id rank → HasRank o h id rank
  rank_before h k v id rank l r =
      let (first, second) = values_before h k v id l r.node r.there in
      record {
        node = l.node;
        there = l.there;
        linked = l.linked;
        rank_is = ap (λ (x : Option ℕ). o.rank x l.node.second) first ∙ (ap (λ (x : Option ℕ). o.rank r.node.first x) second ∙ r.rank_is);
      }

  pub chain_place_linked : (h : Heap) (p : Place) → IsChainPlace o h p → IsLinkedPlace p h
  chain_place_linked h (Root r) on = tt
  chain_place_linked h (Next id) (rank, own) = rank_linked h id rank own
  chain_place_linked h (Side id) on = absurd on

  -- a Move of it is one of a linked place
  pub chain_place_moves : (h : Heap) (p : Place) (from to : Link) → IsChainPlace o h p → MovesLinked (Move p from to) h
  chain_place_moves h (Root r) from to on = tt
  chain_place_moves h (Next id) from to (rank, own) = rank_linked h id rank own
  chain_place_moves h (Side id) from to on = absurd on

  -- a place of a chain is no second link
  pub chain_place_first : (h : Heap) (p : Place) (id : ℕ) → IsChainPlace o h p → Side id ≢ p
  chain_place_first h (Root r) id on same = cc
  chain_place_first h (Next d) id on same = cc
  chain_place_first h (Side d) id on same = on
