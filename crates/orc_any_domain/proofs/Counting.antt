-- How many rows were given, and how many nodes a heap has.
use Rattle.std.proofs.Common.{◌≡◌, ◌≢◌, ℕ, zero, suc, ◌+◌, ◌-◌, ◌<◌, ◌≤◌, ◌==◌, List, [], ◌∷◌, ◌++◌, length, length-append, false, Option, slice_get, refl, sym, ap, ◌∙◌, arith, eq-eqb, ne_eqb}
use Rattle.orc_heap.proofs.Moved.{target_length}
use Rattle.std.specs.Prelude.{if◌then◌else◌}
use mathlib.Core.Logic.{dite}
use native.Mathlib.Decide.{ℕ_discrete}
use Rattle.orc_heap.proofs.Changes.{length-change}
use Rattle.orc_heap.proofs.Runs.{run_from-append}
use Rattle.orc_heap.specs.Acts.{as_linked, as_named, change_node, change_target, heap_after, set_link, with_link, with_side, with_value}
use Rattle.orc_heap.specs.Heap.{Heap, HeapNumbers, Node, new_heap, new_node}
use Rattle.orc_heap.specs.Journals.{run_from, run_heap}
use Rattle.orc_heap.specs.declared.events.Act.{Act}
use Rattle.orc_heap.specs.declared.events.Act.TheVariants.{Aim, AimSide, Fill, Give, Look, Miss, Move}
use Rattle.orc_heap.specs.declared.events.Event.{Event}
use Rattle.orc_heap.specs.declared.events.Link.{Link}
use Rattle.orc_heap.specs.declared.events.Place.{Place}
use Rattle.orc_heap.specs.declared.events.Place.TheVariants.{Next, Root, Side}
use Rattle.orc_any_domain.proofs.Rows.{at_index, index_in, some_one}
use Rattle.orc_any_domain.specs.Rows.{IsListed, index_of}
use Rattle.orc_heap.specs.Moves.{give_with, gives_in}

-- numbers below k that go to different numbers below n
pub record Different (k n : ℕ) (f : ℕ → ℕ) : Type 0 where
  pub low : (i : ℕ) → i < k → f i < n
  pub apart : (i j : ℕ) → i < k → j < k → f i ≡ f j → i ≡ j

-- where the last of these numbers is taken, the number of the last one
instead : (ℕ → ℕ) → ℕ → ℕ → ℕ → ℕ
instead f k n i = if f i == n then f k else f i

instead_last : (f : ℕ → ℕ) (k n i : ℕ) → f i ≡ n → instead f k n i ≡ f k
unfolding instead
instead_last f k n i e = ap (λ b. if b then f k else f i) (eq-eqb (f i) n e)

instead_else : (f : ℕ → ℕ) (k n i : ℕ) → f i ≢ n → instead f k n i ≡ f i
unfolding instead
instead_else f k n i ne = ap (λ b. if b then f k else f i) (ne_eqb (f i) n ne)

fewer : (k n : ℕ) (f : ℕ → ℕ) → Different (suc k) (suc n) f → Different k n (instead f k n)
fewer k n f d = record {
  low = λ i l. dite (ℕ_discrete (f i) n)
      (λ e. let ne : f k ≢ n = λ q. let same = d.apart i k (omega (arith, l)) (omega arith) (e ∙ sym q) in omega (arith, same, l) in
      let b = d.low k (omega arith) in let is = instead_last f k n i e in omega (arith, ne, b, is))
      (λ ne. let b = d.low i (omega (arith, l)) in let is = instead_else f k n i ne in omega (arith, ne, b, is));
  apart = λ i j l m e. dite (ℕ_discrete (f i) n)
      (λ x. dite (ℕ_discrete (f j) n)
      (λ y. d.apart i j (omega (arith, l)) (omega (arith, m)) (x ∙ sym y))
      (λ y. let same = d.apart k j (omega arith) (omega (arith, m)) (sym (instead_last f k n i x) ∙ (e ∙ instead_else f k n j y)) in
      absurd (omega (arith, same, m))))
      (λ x. dite (ℕ_discrete (f j) n)
      (λ y. let same = d.apart i k (omega (arith, l)) (omega arith) (sym (instead_else f k n i x) ∙ (e ∙ instead_last f k n j y)) in
      absurd (omega (arith, same, l)))
      (λ y. d.apart i j (omega (arith, l)) (omega (arith, m)) (sym (instead_else f k n i x) ∙ (e ∙ instead_else f k n j y))));
}

-- then there are no more of them
pub no_more : (k n : ℕ) (f : ℕ → ℕ) → Different k n f → k ≤ n
no_more zero n f d = omega arith
no_more (suc k) zero f d = let l = d.low 0 (omega arith) in absurd (omega (arith, l))
no_more (suc k) (suc n) f d = let l = no_more k n (instead f k n) (fewer k n f d) in omega (arith, l)

-- where each row below `most` is listed, no fewer are
pub listed_all : (rows : List ℕ) (most : ℕ) → ((row : ℕ) → row < most → IsListed rows row) → most ≤ length rows
listed_all rows most all = no_more most (length rows) (λ row. index_of row rows) (record {
  low = λ row l. let o = all row l in index_in row rows o.0 o.1;
  apart = λ row other l m e.
      let o = all row l in
      let q = all other m in
      some_one row other
      (sym (at_index row rows (index_in row rows o.0 o.1)) ∙ (ap (slice_get rows) e ∙ at_index other rows (index_in other rows q.0 q.1)));
})

nodes_link : (place : Place) (link : Link) (h : Heap) → length (set_link place link h).nodes ≡ length h.nodes
nodes_link (Root r) link h = refl
nodes_link (Next i) link h = length-change (with_link link) i h.nodes
nodes_link (Side i) link h = length-change (with_side link) i h.nodes

nodes_aimed : (f : Node → Node) (id : ℕ) (to : Option ℕ) (h : Heap)
    → length (change_target as_named to (change_node f id h)).nodes ≡ length h.nodes + 0
nodes_aimed f id to h =
    let e = target_length as_named to (change_node f id h) in
    let l = length-change f id h.nodes in
    omega (arith, e, l)

nodes_after : (agent : ℕ) (act : Act) (h : Heap) → length (heap_after agent act h).nodes ≡ length h.nodes + give_with act
nodes_after agent Give h = length-append h.nodes (new_node agent ∷ [])
nodes_after agent (Fill id which value) h = let e = length-change (with_value which value) id h.nodes in omega (arith, e)
nodes_after agent (Aim id to) h = nodes_aimed (with_link (record { to = to; mark = false })) id to h
nodes_after agent (AimSide id to) h = nodes_aimed (with_side (record { to = to; mark = false })) id to h
nodes_after agent (Look place link) h = omega arith
nodes_after agent (Move place from to) h = let e = target_length as_linked to.to (set_link place to h) in let f = nodes_link place to h in omega (arith, e, f)
nodes_after agent (Miss place wanted found) h = omega arith

nodes_from : {N : Type 0} (h : Heap) (es : List (Event N)) → length (run_from h es).nodes ≡ length h.nodes + gives_in es
nodes_from h [] = omega arith
nodes_from h (e ∷ es) = let r = nodes_from (heap_after e.agent e.act h) es in let s = nodes_after e.agent e.act h in omega (arith, r, s)

-- as many nodes as Gives
pub nodes_given : {N : Type 0} (n : HeapNumbers) (es : List (Event N)) → length (run_heap n es).nodes ≡ gives_in es
nodes_given n es = let e = nodes_from (new_heap n) es in omega (arith, e)

-- no node is lost as events are added
pub nodes_stay : {N : Type 0} (n : HeapNumbers) (es fs : List (Event N)) → length (run_heap n es).nodes ≤ length (run_heap n (es ++ fs)).nodes
nodes_stay n es fs = rw (run_from-append (new_heap n) es fs) (let e = nodes_from (run_heap n es) fs in omega (arith, e))
