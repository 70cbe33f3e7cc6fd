-- What a node's record says of the acts before.
use Rattle.std.proofs.Common.{Bool, List, [], ap, arith, false, inl, inr, refl, suc, sym, true, zero, ℕ, ◌++◌, ◌∙◌, ◌∷◌, ◌≡◌}
use Rattle.std.proofs.lemmas.Bool.{eq-eqb, eqb-false, eqb-true, ne_eqb}
use Rattle.std.specs.List.{slice_get}
use Rattle.std.specs.Prelude.{None, Option, Some, ◌==◌, ◌||◌}
use Rattle.orc_heap.proofs.Changes.{get-change}
use Rattle.orc_heap.specs.Acts.{Fits, IsTarget, as_linked, as_named, change_node, change_target, heap_after, with_link, with_value, with_side}
use Rattle.orc_heap.specs.Heap.{Heap, HeapNumbers, Node, change, new_heap, new_node}
use Rattle.orc_heap.specs.Journals.{IsLawful, IsLawfulFrom, is_once_linked, is_once_named, moves_to, names_node, points_to, run_from, run_heap}
use Rattle.orc_heap.specs.declared.events.Act.{Act}
use Rattle.orc_heap.specs.declared.events.Act.TheVariants.{Aim, Fill, Give, Look, Miss, Move, AimSide}
use Rattle.orc_heap.specs.declared.events.Event.{Event}
use Rattle.orc_heap.specs.declared.events.Place.TheVariants.{Next, Root, Side}

-- the node's part, or false where there is no node
part_of : (Node → Bool) → Option Node → Bool
part_of p None = false
part_of p (Some n) = p n

abbrev flag : (Node → Bool) → List Node → ℕ → Bool
flag p ns id = part_of p (slice_get ns id)

or-false : (b : Bool) → b || false ≡ b
or-false true = refl
or-false false = refl

or-true : (b : Bool) → b || true ≡ true
or-true true = refl
or-true false = refl

or-assoc : (a b c : Bool) → (a || b) || c ≡ a || (b || c)
or-assoc true b c = refl
or-assoc false b c = refl

flag-kept : (p : Node → Bool) (f : Node → Node) → ((n : Node) → p (f n) ≡ p n) → (i id : ℕ) (ns : List Node) → flag p (change f i ns) id ≡ flag p ns id
unfolding part_of
flag-kept p f k i id [] = refl
flag-kept p f k zero zero (n ∷ ns) = k n
flag-kept p f k zero (suc id) (n ∷ ns) = refl
flag-kept p f k (suc i) zero (n ∷ ns) = refl
flag-kept p f k (suc i) (suc id) (n ∷ ns) = flag-kept p f k i id ns

eqb-suc : (i j : ℕ) → (i == j) ≡ (suc i == suc j)
eqb-suc i j = cases (i == j) refl
  where
    cases : (b : Bool) → (i == j) ≡ b → b ≡ (suc i == suc j)
    cases true e = let k = eqb-true i j e in sym (eq-eqb (suc i) (suc j) (ap suc k))
    cases false e = let k = eqb-false i j e in sym (ne_eqb (suc i) (suc j) (λ h. k (omega arith)))

flag-set : (p : Node → Bool) (f : Node → Node) → ((n : Node) → p (f n) ≡ true) → (i id : ℕ) (ns : List Node) (x : Node) → slice_get ns i ≡ Some x
    → flag p (change f i ns) id ≡ flag p ns id || (i == id)
unfolding part_of
flag-set p f k i id [] x e = cc
flag-set p f k zero zero (n ∷ ns) x e = k n ∙ sym (ap (λ b. p n || b) (eq-eqb 0 0 refl) ∙ or-true (p n))
flag-set p f k zero (suc id) (n ∷ ns) x e = sym (ap (λ b. flag p ns id || b) (ne_eqb 0 (suc id) (λ h. omega arith)) ∙ or-false _)
flag-set p f k (suc i) zero (n ∷ ns) x e = sym (ap (λ b. p n || b) (ne_eqb (suc i) 0 (λ h. omega arith)) ∙ or-false _)
flag-set p f k (suc i) (suc id) (n ∷ ns) x e = flag-set p f k i id ns x e ∙ ap (λ b. flag p ns id || b) (eqb-suc i id)

flag-grown : (p : Node → Bool) (ns : List Node) (y : Node) (id : ℕ) → p y ≡ false → flag p (ns ++ y ∷ []) id ≡ flag p ns id
unfolding part_of
flag-grown p [] y zero e = e
flag-grown p [] y (suc id) e = refl
flag-grown p (n ∷ ns) y zero e = refl
flag-grown p (n ∷ ns) y (suc id) e = flag-grown p ns y id e

abbrev IsThere : List Node → ℕ → Type 0
IsThere ns i = (x : Node) × (slice_get ns i ≡ Some x)

there-change : (f : Node → Node) (k i : ℕ) (ns : List Node) → IsThere ns i → IsThere (change f k ns) i
there-change f k i ns t = elim (get-change f k i ns t.0 t.1) [ inl r ↦ (f t.0, r.1) | inr r ↦ (t.0, r.1) ]

-- the targets of a heap are there
IsThereTo : List Node → Option ℕ → Type 0
IsThereTo ns None = Unit {0}
IsThereTo ns (Some i) = IsThere ns i

target_there : (agent : ℕ) (h : Heap) (to : Option ℕ) → IsTarget agent h to → IsThereTo h.nodes to
unfolding IsThereTo
target_there agent h None t = tt
target_there agent h (Some i) t = (t.node, t.there)

there_to-change : (f : Node → Node) (k : ℕ) (ns : List Node) (to : Option ℕ) → IsThereTo ns to → IsThereTo (change f k ns) to
unfolding IsThereTo
there_to-change f k ns None t = tt
there_to-change f k ns (Some i) t = there-change f k i ns t

target-kept : (p : Node → Bool) (f : Node → Node) → ((n : Node) → p (f n) ≡ p n) → (to : Option ℕ) (id : ℕ) (h : Heap)
    → flag p (change_target f to h).nodes id ≡ flag p h.nodes id
target-kept p f k None id h = refl
target-kept p f k (Some i) id h = flag-kept p f k i id h.nodes

target-set : (p : Node → Bool) (f : Node → Node) → ((n : Node) → p (f n) ≡ true) → (to : Option ℕ) (id : ℕ) (h : Heap) → IsThereTo h.nodes to
    → flag p (change_target f to h).nodes id ≡ flag p h.nodes id || names_node to id
unfolding IsThereTo
target-set p f k None id h t = sym (or-false _)
target-set p f k (Some i) id h t = flag-set p f k i id h.nodes t.0 t.1

linked-act : (agent : ℕ) (act : Act) (h : Heap) (id : ℕ) → Fits agent act h
    → flag (λ n. n.linked) (heap_after agent act h).nodes id ≡ flag (λ n. n.linked) h.nodes id || moves_to act id
linked-act agent Give h id f = flag-grown _ h.nodes (new_node agent) id refl ∙ sym (or-false _)
linked-act agent (Fill i zero value) h id f = flag-kept _ (with_value zero value) (λ n. refl) i id h.nodes ∙ sym (or-false _)
linked-act agent (Fill i (suc which) value) h id f = flag-kept _ (with_value (suc which) value) (λ n. refl) i id h.nodes ∙ sym (or-false _)
linked-act agent (Aim i to) h id f = target-kept _ as_named (λ n. refl) to id _ ∙ flag-kept _ (with_link (record { to = to; mark = false }))
    (λ n. refl) i id h.nodes ∙ sym (or-false _)
linked-act agent (AimSide i to) h id f = target-kept _ as_named (λ n. refl) to id _ ∙ flag-kept _ (with_side (record { to = to; mark = false }))
    (λ n. refl) i id h.nodes ∙ sym (or-false _)
linked-act agent (Look place link) h id f = sym (or-false _)
linked-act agent (Move (Root r) from to) h id f = target-set _ as_linked (λ n. refl) to.to id _ (target_there agent h to.to f.1)
linked-act agent (Move (Next i) from to) h id f =
    target-set _ as_linked (λ n. refl) to.to id (change_node (with_link to) i h)
    (there_to-change (with_link to) i h.nodes to.to (target_there agent h to.to f.1))
    ∙ ap (λ b. b || names_node to.to id) (flag-kept _ (with_link to) (λ n. refl) i id h.nodes)
linked-act agent (Move (Side i) from to) h id f =
    target-set _ as_linked (λ n. refl) to.to id (change_node (with_side to) i h)
    (there_to-change (with_side to) i h.nodes to.to (target_there agent h to.to f.1))
    ∙ ap (λ b. b || names_node to.to id) (flag-kept _ (with_side to) (λ n. refl) i id h.nodes)
linked-act agent (Miss place wanted found) h id f = sym (or-false _)

named-act : (agent : ℕ) (act : Act) (h : Heap) (id : ℕ) → Fits agent act h
    → flag (λ n. n.named) (heap_after agent act h).nodes id ≡ flag (λ n. n.named) h.nodes id || points_to act id
named-act agent Give h id f = flag-grown _ h.nodes (new_node agent) id refl ∙ sym (or-false _)
named-act agent (Fill i zero value) h id f = flag-kept _ (with_value zero value) (λ n. refl) i id h.nodes ∙ sym (or-false _)
named-act agent (Fill i (suc which) value) h id f = flag-kept _ (with_value (suc which) value) (λ n. refl) i id h.nodes ∙ sym (or-false _)
named-act agent (Aim i to) h id f =
    let l = with_link (record { to = to; mark = false }) in
    target-set _ as_named (λ n. refl) to id (change_node l i h) (there_to-change l i h.nodes to (target_there agent h to f.1))
    ∙ ap (λ b. b || names_node to id) (flag-kept _ l (λ n. refl) i id h.nodes)
named-act agent (AimSide i to) h id f =
    let l = with_side (record { to = to; mark = false }) in
    target-set _ as_named (λ n. refl) to id (change_node l i h) (there_to-change l i h.nodes to (target_there agent h to f.1))
    ∙ ap (λ b. b || names_node to id) (flag-kept _ l (λ n. refl) i id h.nodes)
named-act agent (Look place link) h id f = sym (or-false _)
named-act agent (Move (Root r) from to) h id f = target-set _ as_linked (λ n. refl) to.to id _ (target_there agent h to.to f.1)
named-act agent (Move (Next i) from to) h id f =
    target-set _ as_linked (λ n. refl) to.to id (change_node (with_link to) i h)
    (there_to-change (with_link to) i h.nodes to.to (target_there agent h to.to f.1))
    ∙ ap (λ b. b || names_node to.to id) (flag-kept _ (with_link to) (λ n. refl) i id h.nodes)
named-act agent (Move (Side i) from to) h id f =
    target-set _ as_linked (λ n. refl) to.to id (change_node (with_side to) i h)
    (there_to-change (with_side to) i h.nodes to.to (target_there agent h to.to f.1))
    ∙ ap (λ b. b || names_node to.to id) (flag-kept _ (with_side to) (λ n. refl) i id h.nodes)
named-act agent (Miss place wanted found) h id f = sym (or-false _)

linked-run : {N : Type 0} (h : Heap) (es : List (Event N)) (id : ℕ) → IsLawfulFrom h es
    → flag (λ n. n.linked) (run_from h es).nodes id ≡ flag (λ n. n.linked) h.nodes id || is_once_linked es id
linked-run h [] id l = sym (or-false _)
linked-run h (e ∷ es) id l =
    linked-run (heap_after e.agent e.act h) es id l.1
    ∙ ap (λ b. b || is_once_linked es id) (linked-act e.agent e.act h id l.0)
    ∙ or-assoc _ (moves_to e.act id) (is_once_linked es id)

named-run : {N : Type 0} (h : Heap) (es : List (Event N)) (id : ℕ) → IsLawfulFrom h es
    → flag (λ n. n.named) (run_from h es).nodes id ≡ flag (λ n. n.named) h.nodes id || is_once_named es id
named-run h [] id l = sym (or-false _)
named-run h (e ∷ es) id l =
    named-run (heap_after e.agent e.act h) es id l.1
    ∙ ap (λ b. b || is_once_named es id) (named-act e.agent e.act h id l.0)
    ∙ or-assoc _ (points_to e.act id) (is_once_named es id)

none-there : (p : Node → Bool) (id : ℕ) → flag p [] id ≡ false
unfolding part_of
none-there p id = refl

there_part : (p : Node → Bool) (o : Option Node) (n : Node) → o ≡ Some n → p n ≡ part_of p o
unfolding part_of
there_part p o n e = rw e

pub linked_told : {N : Type 0} (n : HeapNumbers) (es : List (Event N)) (id : ℕ) (node : Node) → IsLawful n es
    → slice_get (run_heap n es).nodes id ≡ Some node → node.linked ≡ is_once_linked es id
linked_told n es id node l e =
    there_part (λ x. x.linked) _ node e ∙ linked-run (new_heap n) es id l ∙ ap (λ b. b || is_once_linked es id) (none-there (λ x. x.linked) id)

pub named_told : {N : Type 0} (n : HeapNumbers) (es : List (Event N)) (id : ℕ) (node : Node) → IsLawful n es
    → slice_get (run_heap n es).nodes id ≡ Some node → node.named ≡ is_once_named es id
named_told n es id node l e =
    there_part (λ x. x.named) _ node e ∙ named-run (new_heap n) es id l ∙ ap (λ b. b || is_once_named es id) (none-there (λ x. x.named) id)
