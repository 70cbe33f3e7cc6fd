-- A node to which a Move made a link stays such a node.
use Rattle.std.proofs.Common.{false, inl, inr, refl, subst, sym, true, ℕ, ◌∙◌, ◌≡◌, Bool, zero, suc}
use Rattle.std.proofs.lemmas.Bool.{eq-eqb, ne_eqb, eqb-true}
use Rattle.std.specs.List.{slice_get}
use Rattle.std.specs.Prelude.{None, Option, Some, if◌then◌else◌, ◌==◌}
use Rattle.orc_heap.proofs.Changes.{get-change, get-grown}
use Rattle.orc_heap.specs.Acts.{Fits, IsFresh, StaysLinked, as_linked, as_named, change_node, change_target, heap_after, moved_link, with_link, with_value, with_side, moved_side}
use Rattle.orc_heap.specs.Heap.{Heap, Node}
use Rattle.orc_heap.specs.declared.events.Act.{Act}
use Rattle.orc_heap.specs.declared.events.Act.TheVariants.{Aim, Fill, Give, Look, Miss, Move, AimSide}
use Rattle.orc_heap.specs.declared.events.Link.{Link}
use Rattle.orc_heap.specs.declared.events.Place.TheVariants.{Next, Root, Side}
use Rattle.orc_heap.proofs.Fresh.{touched}
use Rattle.orc_heap.specs.Journals.{names_node}

fresh_unlinked : (agent : ℕ) (h : Heap) (id : ℕ) (node : Node) → IsFresh agent h id → slice_get h.nodes id ≡ Some node → node.linked ≡ true → ⊥
fresh_unlinked agent h id node fresh there linked =
    let same : Some fresh.node ≡ Some node = sym fresh.there ∙ there in
    let k = fresh.unlinked in
    cc

-- a change of a node that keeps all of it but its link, and whether an Aim or a Move made a link to it
record KeepsNode (f : Node → Node) : Type 0 where
  linked : (n : Node) → n.linked ≡ true → (f n).linked ≡ true
  giver : (n : Node) → (f n).giver ≡ n.giver
  first : (n : Node) → (f n).first ≡ n.first
  second : (n : Node) → (f n).second ≡ n.second

unchanged : (h : Heap) (d : ℕ) (old : Node) → slice_get h.nodes d ≡ Some old → old.linked ≡ true → StaysLinked h d old old.link
unchanged h d old there linked = record { node = old; there = there; linked = linked; giver = refl; first = refl; second = refl; link_is = refl }

-- a change that keeps the link too
target_keeps : (f : Node → Node) → KeepsNode f → ((n : Node) → (f n).link ≡ n.link) → (to : Option ℕ) (h : Heap) (d : ℕ) (old : Node) (link : Link)
    → StaysLinked h d old link → StaysLinked (change_target f to h) d old link
target_keeps f k l None h d old link s = s
target_keeps f k l (Some id) h d old link s =
    elim (get-change f id d h.nodes s.node s.there) [
      | inl r ↦ record {
        node = f s.node;
        there = r.1;
        linked = k.linked s.node s.linked;
        giver = k.giver s.node ∙ s.giver;
        first = k.first s.node ∙ s.first;
        second = k.second s.node ∙ s.second;
        link_is = l s.node ∙ s.link_is;
      }
      | inr r ↦ record { node = s.node; there = r.1; linked = s.linked; giver = s.giver; first = s.first; second = s.second; link_is = s.link_is }
    ]

named_keeps : KeepsNode as_named
named_keeps = record { linked = λ n e. e; giver = λ n. refl; first = λ n. refl; second = λ n. refl }

linked_keeps : KeepsNode as_linked
linked_keeps = record { linked = λ n e. refl; giver = λ n. refl; first = λ n. refl; second = λ n. refl }

-- a change of a fresh node is none of a once linked one
other_keeps : (f : Node → Node) (agent : ℕ) (h : Heap) (id d : ℕ) (old : Node) → IsFresh agent h id → slice_get h.nodes d ≡ Some old → old.linked ≡ true
    → StaysLinked (change_node f id h) d old old.link
other_keeps f agent h id d old fresh there linked =
    elim (get-change f id d h.nodes old there) [
      | inl r ↦ absurd (fresh_unlinked agent h d old (subst (λ i. IsFresh agent h i) r.0 fresh) there linked)
      | inr r ↦ record { node = old; there = r.1; linked = linked; giver = refl; first = refl; second = refl; link_is = refl }
    ]

moved : (t d : ℕ) (to : Link) (h : Heap) (old : Node) → slice_get h.nodes d ≡ Some old → old.linked ≡ true
    → StaysLinked (change_node (with_link to) t h) d old (if t == d then to else old.link)
moved t d to h old there linked =
    elim (get-change (with_link to) t d h.nodes old there) [
      | inl r ↦ rw (eq-eqb t d r.0)
          (record { node = with_link to old; there = r.1; linked = linked; giver = refl; first = refl; second = refl; link_is = refl })
      | inr r ↦ rw (ne_eqb t d r.0) (record { node = old; there = r.1; linked = linked; giver = refl; first = refl; second = refl; link_is = refl })
    ]

side_moved : (t d : ℕ) (to : Link) (h : Heap) (old : Node) → slice_get h.nodes d ≡ Some old → old.linked ≡ true
    → StaysLinked (change_node (with_side to) t h) d old old.link
side_moved t d to h old there linked =
    elim (get-change (with_side to) t d h.nodes old there) [
      | inl r ↦ record { node = with_side to old; there = r.1; linked = linked; giver = refl; first = refl; second = refl; link_is = refl }
      | inr r ↦ record { node = old; there = r.1; linked = linked; giver = refl; first = refl; second = refl; link_is = refl }
    ]

pub linked_after : (agent : ℕ) (act : Act) (h : Heap) (d : ℕ) (old : Node) → Fits agent act h → slice_get h.nodes d ≡ Some old → old.linked ≡ true
    → StaysLinked (heap_after agent act h) d old (moved_link act d old.link)
linked_after agent Give h d old fits there linked =
    record { node = old; there = get-grown d h.nodes _ old there; linked = linked; giver = refl; first = refl; second = refl; link_is = refl }
linked_after agent (Fill id which value) h d old fits there linked = other_keeps (with_value which value) agent h id d old fits.0 there linked
linked_after agent (Aim id to) h d old fits there linked =
    target_keeps as_named named_keeps (λ n. refl) to (change_node (with_link (record { to = to; mark = false })) id h) d old old.link
    (other_keeps _ agent h id d old fits.0 there linked)
linked_after agent (AimSide id to) h d old fits there linked =
    target_keeps as_named named_keeps (λ n. refl) to (change_node (with_side (record { to = to; mark = false })) id h) d old old.link
    (other_keeps _ agent h id d old fits.0 there linked)
linked_after agent (Look place link) h d old fits there linked = unchanged h d old there linked
linked_after agent (Move (Root r) from to) h d old fits there linked =
    target_keeps as_linked linked_keeps (λ n. refl) to.to _ d old old.link
    (record { node = old; there = there; linked = linked; giver = refl; first = refl; second = refl; link_is = refl })
linked_after agent (Move (Next t) from to) h d old fits there linked =
    target_keeps as_linked linked_keeps (λ n. refl) to.to (change_node (with_link to) t h) d old _ (moved t d to h old there linked)
linked_after agent (Move (Side t) from to) h d old fits there linked =
    target_keeps as_linked linked_keeps (λ n. refl) to.to (change_node (with_side to) t h) d old _ (side_moved t d to h old there linked)
linked_after agent (Miss place wanted found) h d old fits there linked = unchanged h d old there linked

pub either_side : (b : Bool) (x y : Node) (link : Link) → x.side ≡ link → y.side ≡ link → (if b then x else y).side ≡ link
either_side true x y link e f = e
either_side false x y link e f = f

-- what an act does to the second link of a once linked node
pub side_after : (agent : ℕ) (act : Act) (h : Heap) (d : ℕ) (old : Node) → Fits agent act h → slice_get h.nodes d ≡ Some old → old.linked ≡ true
    → (touched act d old).side ≡ moved_side act d old.side
side_after agent Give h d old fits there linked = refl
side_after agent (Fill id which value) h d old fits there linked = either_side (id == d) (with_value which value old) old old.side (value_side which) refl
  where
    value_side : (k : ℕ) → (with_value k value old).side ≡ old.side
    value_side zero = refl
    value_side (suc k) = refl
side_after agent (Aim id to) h d old fits there linked =
    let l : Node → Node = with_link (record { to = to; mark = false }) in
    let k = either_side (id == d) (l old) old old.side refl refl in
    either_side (names_node to d) (as_named (if id == d then l old else old)) (if id == d then l old else old) old.side k k
side_after agent (AimSide id to) h d old fits there linked =
    let l : Node → Node = with_side (record { to = to; mark = false }) in
    let k = not_mine (id == d) refl in
    either_side (names_node to d) (as_named (if id == d then l old else old)) (if id == d then l old else old) old.side k k
  where
    not_mine : (b : Bool) → (id == d) ≡ b → (if b then with_side (record { to = to; mark = false }) old else old).side ≡ old.side
    not_mine true e = absurd (fresh_unlinked agent h d old (subst (λ i. IsFresh agent h i) (eqb-true id d e) fits.0) there linked)
    not_mine false e = refl
side_after agent (Look place link) h d old fits there linked = refl
side_after agent (Move (Root r) from to) h d old fits there linked = either_side (names_node to.to d) (as_linked old) old old.side refl refl
side_after agent (Move (Next t) from to) h d old fits there linked =
    let k = either_side (t == d) (with_link to old) old old.side refl refl in
    either_side (names_node to.to d) (as_linked (if t == d then with_link to old else old)) (if t == d then with_link to old else old) old.side k k
side_after agent (Move (Side t) from to) h d old fits there linked = by_place (t == d)
  where
    by_place : (b : Bool) → (if names_node to.to d then as_linked (if b then with_side to old else old) else (if b then with_side to old else old)).side ≡
        (if b then to else old.side)
    by_place true = either_side (names_node to.to d) (as_linked (with_side to old)) (with_side to old) to refl refl
    by_place false = either_side (names_node to.to d) (as_linked old) old old.side refl refl
side_after agent (Miss place wanted found) h d old fits there linked = refl
