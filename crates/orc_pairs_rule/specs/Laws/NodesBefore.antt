-- A node after an act was given by it, or was there before.
use Rattle.std.proofs.Common.{List, None, Option, Some, [], false, inl, inr, refl, suc, sym, zero, ℕ, ◌∙◌, ◌∷◌, ◌≡◌, ◌⊎◌}
use Rattle.std.specs.List.{slice_get}
use Rattle.orc_heap.proofs.Before.{get-of_grown}
use Rattle.orc_heap.proofs.Fresh.{node-after, touched}
use Rattle.orc_heap.specs.Acts.{as_linked, as_named, change_node, change_target, heap_after, set_link, with_link, with_side, with_value}
use Rattle.orc_heap.specs.Heap.{Heap, Node, change, new_node}
use Rattle.orc_heap.specs.declared.events.Act.{Act}
use Rattle.orc_heap.specs.declared.events.Act.TheVariants.{Aim, AimSide, Fill, Give, Look, Miss, Move}
use Rattle.orc_heap.specs.declared.events.Place.TheVariants.{Next, Root, Side}

none_change : {A : Type 0} (f : A → A) (i j : ℕ) (xs : List A) → slice_get xs j ≡ None → slice_get (change f i xs) j ≡ None
none_change f i j [] e = e
none_change f zero zero (x ∷ xs) e = cc
none_change f zero (suc j) (x ∷ xs) e = e
none_change f (suc i) zero (x ∷ xs) e = cc
none_change f (suc i) (suc j) (x ∷ xs) e = none_change f i j xs e

none_target : (f : Node → Node) (to : Option ℕ) (id : ℕ) (h : Heap) → slice_get h.nodes id ≡ None → slice_get (change_target f to h).nodes id ≡ None
none_target f None id h e = e
none_target f (Some i) id h e = none_change f i id h.nodes e

-- a node that wasn't there was given by the act
given_by : (agent : ℕ) (act : Act) (h : Heap) (id : ℕ) (node : Node) → slice_get h.nodes id ≡ None → slice_get (heap_after agent act h).nodes id ≡ Some node
    → node ≡ new_node agent
given_by agent Give h id node none there =
    elim (get-of_grown h.nodes (new_node agent) node id there) [
      | inl old ↦ let bad : ◌≡◌ {A = Option Node} None (Some node) = sym none ∙ old in cc
      | inr same ↦ sym same
    ]
given_by agent (Fill i which value) h id node none there =
    let bad : ◌≡◌ {A = Option Node} None (Some node) = sym (none_change (with_value which value) i id h.nodes none) ∙ there in cc
given_by agent (Aim i to) h id node none there =
    let l = with_link (record { to = to; mark = false }) in
    let bad : ◌≡◌ {A = Option Node} None (Some node) = sym (none_target as_named to id (change_node l i h) (none_change l i id h.nodes none)) ∙ there in
    cc
given_by agent (AimSide i to) h id node none there =
    let l = with_side (record { to = to; mark = false }) in
    let bad : ◌≡◌ {A = Option Node} None (Some node) = sym (none_target as_named to id (change_node l i h) (none_change l i id h.nodes none)) ∙ there in
    cc
given_by agent (Look place link) h id node none there = let bad : ◌≡◌ {A = Option Node} None (Some node) = sym none ∙ there in cc
given_by agent (Miss place wanted found) h id node none there = let bad : ◌≡◌ {A = Option Node} None (Some node) = sym none ∙ there in cc
given_by agent (Move (Root r) from to) h id node none there =
    let bad : ◌≡◌ {A = Option Node} None (Some node) = sym (none_target as_linked to.to id (set_link (Root r) to h) none) ∙ there in cc
given_by agent (Move (Next i) from to) h id node none there =
    let bad : ◌≡◌ {A = Option Node} None (Some node) =
    sym (none_target as_linked to.to id (set_link (Next i) to h) (none_change (with_link to) i id h.nodes none)) ∙ there in
    cc
given_by agent (Move (Side i) from to) h id node none there =
    let bad : ◌≡◌ {A = Option Node} None (Some node) =
    sym (none_target as_linked to.to id (set_link (Side i) to h) (none_change (with_side to) i id h.nodes none)) ∙ there in
    cc

-- a node after an act was given by it, or was there before and is as the act left it
pub node_before : (agent : ℕ) (act : Act) (h : Heap) (id : ℕ) (node : Node) → slice_get (heap_after agent act h).nodes id ≡ Some node
    → (node ≡ new_node agent) ⊎ ((old : Node) × (slice_get h.nodes id ≡ Some old) × (node ≡ touched act id old))
node_before agent act h id node there = cases (slice_get h.nodes id) refl
  where
    cases : (o : Option Node) → slice_get h.nodes id ≡ o
        → (node ≡ new_node agent) ⊎ ((old : Node) × (slice_get h.nodes id ≡ Some old) × (node ≡ touched act id old))
    cases None e = inl (given_by agent act h id node e there)
    cases (Some old) e =
        let both : Some (touched act id old) ≡ Some node = sym (node-after agent act h id old e) ∙ there in
        inr (old, e, (let same : touched act id old ≡ node = cc in sym same))
