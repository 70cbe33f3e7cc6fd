-- A once linked node was one before the act, or the act is the Move that made the link to it.
use Rattle.std.proofs.Common.{List, Option, Some, None, [], false, inl, inr, refl, suc, sym, true, zero, Bool, ℕ, ◌++◌, ◌∙◌, ◌∷◌, ◌≡◌, ◌≢◌, ◌⊎◌, ap}
use Rattle.std.proofs.lemmas.Bool.{eq-eqb, ne_eqb}
use Rattle.std.specs.List.{slice_get}
use Rattle.orc_heap.specs.Acts.{as_linked, as_named, change_node, change_target, heap_after, moved_link, set_link, with_link, with_value, with_side}
use Rattle.orc_heap.specs.Allowed.{IsLinkedNode}
use Rattle.orc_heap.specs.Heap.{Heap, Node, change, new_node}
use Rattle.orc_heap.specs.Journals.{moves_to, names_node}
use Rattle.orc_heap.specs.declared.events.Act.{Act}
use Rattle.orc_heap.specs.declared.events.Act.TheVariants.{Aim, Fill, Give, Look, Miss, Move, AimSide}
use Rattle.orc_heap.specs.declared.events.Place.TheVariants.{Next, Root, Side}

-- an item of a changed list was there before, and was changed or is as it was
pub get-changed : {A : Type 0} (f : A → A) (i j : ℕ) (xs : List A) (y : A) → slice_get (change f i xs) j ≡ Some y
    → (x : A) × (slice_get xs j ≡ Some x) × (((i ≡ j) × (f x ≡ y)) ⊎ ((i ≢ j) × (x ≡ y)))
get-changed f i j [] y e = cc
get-changed f zero zero (x ∷ xs) y e = (x, refl, inl (refl, cc))
get-changed f zero (suc j) (x ∷ xs) y e = (y, e, inr ((λ h. cc), refl))
get-changed f (suc i) zero (x ∷ xs) y e = (x, refl, inr ((λ h. cc), cc))
get-changed f (suc i) (suc j) (x ∷ xs) y e =
    let (z, there, either) = get-changed f i j xs y e in
    (z, there, elim either [ inl c ↦ inl (ap suc c.0, c.1) | inr c ↦ inr ((λ h. c.0 (cc)), c.1) ])

-- an item of a list that grew by one
pub get-of_grown : {A : Type 0} (xs : List A) (x y : A) (i : ℕ) → slice_get (xs ++ x ∷ []) i ≡ Some y → (slice_get xs i ≡ Some y) ⊎ (x ≡ y)
get-of_grown [] x y zero e = inr (cc)
get-of_grown [] x y (suc i) e = cc
get-of_grown (z ∷ zs) x y zero e = inl e
get-of_grown (z ∷ zs) x y (suc i) e = get-of_grown zs x y i e

-- the node was not linked before the act, which is the Move that made the link to it
pub record IsLinkedBy (act : Act) (h : Heap) (id : ℕ) (node : Node) : Type 0 where
  pub old : Node
  pub there : slice_get h.nodes id ≡ Some old
  pub unlinked : old.linked ≡ false
  pub moves : moves_to act id ≡ true
  pub link_is : node.link ≡ moved_link act id old.link

-- a node before a change that links none
unlinked_change : (f : Node → Node) → ((n : Node) → (f n).linked ≡ n.linked) → (i id : ℕ) (ns : List Node) (node : Node)
    → slice_get (change f i ns) id ≡ Some node → node.linked ≡ true
    → (old : Node) × (slice_get ns id ≡ Some old) × (old.linked ≡ true)
unlinked_change f k i id ns node there linked =
    let (x, at, either) = get-changed f i id ns node there in
    (x, at, elim either [ inl c ↦ sym (k x) ∙ (ap (λ (n : Node). n.linked) c.1 ∙ linked) | inr c ↦ ap (λ (n : Node). n.linked) c.1 ∙ linked ])

unlinked_target : (f : Node → Node) → ((n : Node) → (f n).linked ≡ n.linked) → (to : Option ℕ) (id : ℕ) (h : Heap) (node : Node)
    → slice_get (change_target f to h).nodes id ≡ Some node → node.linked ≡ true
    → (old : Node) × (slice_get h.nodes id ≡ Some old) × (old.linked ≡ true)
unlinked_target f k None id h node there linked = (node, there, linked)
unlinked_target f k (Some i) id h node there linked = unlinked_change f k i id h.nodes node there linked

-- a node before a Move made links to the target
linked_target : (to : Option ℕ) (id : ℕ) (h : Heap) (node : Node) → slice_get (change_target as_linked to h).nodes id ≡ Some node
    → (old : Node) × (slice_get h.nodes id ≡ Some old) × (node.link ≡ old.link) × ((node.linked ≡ old.linked) ⊎ (names_node to id ≡ true))
linked_target None id h node there = (node, there, refl, inl refl)
linked_target (Some i) id h node there =
    let (x, at, either) = get-changed as_linked i id h.nodes node there in (
      x,
      at,
      elim either [ inl c ↦ sym (ap (λ (n : Node). n.link) c.1) | inr c ↦ sym (ap (λ (n : Node). n.link) c.1) ],
      elim either [ inl c ↦ inr (eq-eqb i id c.0) | inr c ↦ inl (sym (ap (λ (n : Node). n.linked) c.1)) ],
    )

was_linked : (h : Heap) (id : ℕ) → (old : Node) × (slice_get h.nodes id ≡ Some old) × (old.linked ≡ true) → IsLinkedNode h id
was_linked h id (old, there, linked) = record { node = old; there = there; linked = linked }

by_flag : (act : Act) (h : Heap) (id : ℕ) (old node : Node) → slice_get h.nodes id ≡ Some old → node.linked ≡ true → node.link ≡ moved_link act id old.link
    → (node.linked ≡ old.linked) ⊎ (moves_to act id ≡ true) → IsLinkedNode h id ⊎ IsLinkedBy act h id node
by_flag act h id old node there linked link_is (inl same) = inl (record { node = old; there = there; linked = sym same ∙ linked })
by_flag act h id old node there linked link_is (inr moves) = cases old.linked refl
  where
    cases : (b : Bool) → old.linked ≡ b → IsLinkedNode h id ⊎ IsLinkedBy act h id node
    cases true e = inl (record { node = old; there = there; linked = e })
    cases false e = inr (record { old = old; there = there; unlinked = e; moves = moves; link_is = link_is })

pub linked_before : (agent : ℕ) (act : Act) (h : Heap) (id : ℕ) (node : Node) → slice_get (heap_after agent act h).nodes id ≡ Some node → node.linked ≡ true
    → IsLinkedNode h id ⊎ IsLinkedBy act h id node
linked_before agent Give h id node there linked =
    elim (get-of_grown h.nodes (new_node agent) node id there) [
      | inl old ↦ inl (record { node = node; there = old; linked = linked })
      | inr same ↦ let bad : false ≡ true = ap (λ (n : Node). n.linked) same ∙ linked in cc
    ]
linked_before agent (Fill i zero value) h id node there linked =
    inl (was_linked h id (unlinked_change (with_value zero value) (λ n. refl) i id h.nodes node there linked))
linked_before agent (Fill i (suc which) value) h id node there linked =
    inl (was_linked h id (unlinked_change (with_value (suc which) value) (λ n. refl) i id h.nodes node there linked))
linked_before agent (Aim i to) h id node there linked =
    let l = with_link (record { to = to; mark = false }) in
    let (x, at, was) = unlinked_target as_named (λ n. refl) to id (change_node l i h) node there linked in
    inl (was_linked h id (unlinked_change l (λ n. refl) i id h.nodes x at was))
linked_before agent (AimSide i to) h id node there linked =
    let l = with_side (record { to = to; mark = false }) in
    let (x, at, was) = unlinked_target as_named (λ n. refl) to id (change_node l i h) node there linked in
    inl (was_linked h id (unlinked_change l (λ n. refl) i id h.nodes x at was))
linked_before agent (Look place link) h id node there linked = inl (record { node = node; there = there; linked = linked })
linked_before agent (Miss place wanted found) h id node there linked = inl (record { node = node; there = there; linked = linked })
linked_before agent (Move (Root r) from to) h id node there linked =
    let (x, at, link_is, either) = linked_target to.to id (set_link (Root r) to h) node there in
    by_flag (Move (Root r) from to) h id x node at linked link_is either
linked_before agent (Move (Side t) from to) h id node there linked =
    let (x, at, link_is, either) = linked_target to.to id (set_link (Side t) to h) node there in
    let (y, was, moved) = get-changed (with_side to) t id h.nodes x at in
    by_flag (Move (Side t) from to) h id y node was linked (link_is ∙ link_of y x moved)
    (elim either [ inl same ↦ inl (same ∙ flag_of y x moved) | inr named ↦ inr named ])
  where
    flag_of : (y x : Node) → ((t ≡ id) × (with_side to y ≡ x)) ⊎ ((t ≢ id) × (y ≡ x)) → x.linked ≡ y.linked
    flag_of y x (inl c) = sym (ap (λ (n : Node). n.linked) c.1)
    flag_of y x (inr c) = sym (ap (λ (n : Node). n.linked) c.1)

    link_of : (y x : Node) → ((t ≡ id) × (with_side to y ≡ x)) ⊎ ((t ≢ id) × (y ≡ x)) → x.link ≡ y.link
    link_of y x (inl c) = sym (ap (λ (n : Node). n.link) c.1)
    link_of y x (inr c) = sym (ap (λ (n : Node). n.link) c.1)
linked_before agent (Move (Next t) from to) h id node there linked =
    let (x, at, link_is, either) = linked_target to.to id (set_link (Next t) to h) node there in
    let (y, was, moved) = get-changed (with_link to) t id h.nodes x at in
    by_flag (Move (Next t) from to) h id y node was linked (link_is ∙ link_of y x moved)
    (elim either [ inl same ↦ inl (same ∙ flag_of y x moved) | inr named ↦ inr named ])
  where
    flag_of : (y x : Node) → ((t ≡ id) × (with_link to y ≡ x)) ⊎ ((t ≢ id) × (y ≡ x)) → x.linked ≡ y.linked
    flag_of y x (inl c) = sym (ap (λ (n : Node). n.linked) c.1)
    flag_of y x (inr c) = sym (ap (λ (n : Node). n.linked) c.1)

    link_of : (y x : Node) → ((t ≡ id) × (with_link to y ≡ x)) ⊎ ((t ≢ id) × (y ≡ x)) → x.link ≡ moved_link (Move (Next t) from to) id y.link
    link_of y x (inl c) = rw (eq-eqb t id c.0) (sym (ap (λ (n : Node). n.link) c.1))
    link_of y x (inr c) = rw (ne_eqb t id c.0) (sym (ap (λ (n : Node). n.link) c.1))
