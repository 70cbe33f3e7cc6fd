-- A row that is taken is a new node.
use Rattle.std.proofs.Common.{Bool, [], ap, arith, false, inl, inr, length-append, refl, sym, true, ℕ, ⊎_elim, ◌++◌, ◌+◌, ◌<◌, ◌∙◌, ◌∷◌, ◌≡◌, ◌≢◌}
use Rattle.std.proofs.lemmas.Bool.{eq-eqb, eqb-false, eqb-true}
use Rattle.std.specs.Prelude.{Some, if◌then◌else◌, ◌==◌}
use Rattle.orc_core.proofs.Within.{and_both}
use Rattle.orc_core.specs.RecordParts.{holds, names, slot_of}
use Rattle.orc_core.specs.declared.ops.Op.TheVariants.{GateTake}
use Rattle.orc_heap.proofs.Changes.{get-added}
use Rattle.orc_heap.specs.Acts.{heap_after}
use Rattle.orc_heap.specs.Heap.{Heap, Node, new_node}
use Rattle.orc_heap.specs.declared.events.Act.TheVariants.{Give}
use Rattle.orc_projection.proofs.Links.{named_row, node_link-taken}
use Rattle.orc_projection.proofs.Nodes.{HasNode, Named, Owned, node-grown, node-map}
use Rattle.orc_projection.proofs.Shows.{RowShows, Shows}
use Rattle.orc_projection.proofs.Still.{cut_stays, out_before}
use Rattle.orc_projection.specs.PresentIds.{PresentIds, with_taken}
use Rattle.orc_projection.specs.Projection.{is_taken}
use Rattle.orc_sound.proofs.Facts.{LawfulStep, out, to_row}
use Rattle.orc_sound.proofs.Outs.{null_row, takes_free, zero_one}
use Rattle.orc_sound.proofs.Seats.{seat_split}
use Rattle.orc_sound.proofs.Sources.{any_holds_at, fresh_source}
use Rattle.orc_sound.proofs.Uses.{fresh_uses, held_uses}
use Rattle.orc_sound.proofs.World.{World, record_by, step_world}
use Rattle.orc_words.specs.Bounds.{Bounds}
use Rattle.orc_words.specs.Packed.{link_of}
use Rattle.orc_words.specs.declared.place.Word.TheVariants.{Gate, Next, Root, Side}

pub take_shows : (b : Bounds) (z : World) (p : PresentIds) (h : Heap) (a q : ℕ) → LawfulStep b z a (GateTake q)
    → is_taken (z.seats a) (z.memory (Gate q)) ≡ true → Shows b z p h
    → Shows b (step_world z a (GateTake q)) (with_taken q p) (heap_after a Give h)
take_shows b z p h a q l won s = record {
  links = s.links;
  given = length-append h.nodes (new_node a ∷ []) ∙ ap (λ n. n + 1) s.given;
  there = λ j o. at_there j (j == q) refl o;
  apart = λ i j o u e. at_apart i j (i == q) (j == q) refl refl o u e;
  roots = λ i k. s.roots i k
      ∙ ap Some (sym (node_link-taken p q (link_of (z.memory (Root i))) (λ r e. other_row r (l.counted.roots_out i r (named_row _ r e)))));
  rows = λ j o. at_row j (j == q) refl o;
  fresh = λ x j k. ⊎_elim
      (λ t. ⊎_elim (λ old. rw t.0 (old_node j (fresh_out a j old) (s.fresh a j old)))
      (λ new. rw (t.0, ← eqb-true q j (and_both _ _ new).0) taken_node) (fresh_source (GateTake q) (z.seats a) (z.memory (Gate q)) j t.1))
      (λ t. old_node j (fresh_out x j t.1) (s.fresh x j t.1))
      (seat_split (λ d. names d.fresh j ≡ true) z.seats a x (record_by z a (GateTake q)) k);
  held = λ x k j g e. let t = was_held x k j e in
      old_node j (l.counted.used_out x j (held_uses (z.seats x) j (any_holds_at (z.seats x).slots k j t))) (s.held x k j g t);
  root_named = λ i j k. old_node j (l.counted.roots_out i j k) (s.root_named i j k);
  next_named = λ i j o k. at_next i j (i == q) refl o k;
  side_named = λ i j o k. at_side i j (i == q) refl o k;
}
  where
    free : out (z.memory (Gate q)) ≡ 0
    free = takes_free (GateTake q) (z.seats a) z.memory a q (rw (eq-eqb q q refl) won)

    other_row : (r : ℕ) → out (z.memory (Gate r)) ≡ 1 → r ≢ q
    other_row r o e = zero_one free (rw e at o)

    was_out : (j : ℕ) → (j == q) ≡ false → out ((step_world z a (GateTake q)).memory (Gate j)) ≡ 1 → out (z.memory (Gate j)) ≡ 1
    was_out j e o = out_before b z a (GateTake q) j l (λ t. eqb-false j q e (sym (eqb-true q j (and_both _ _ t).0))) o

    fresh_out : (x j : ℕ) → names (z.seats x).fresh j ≡ true → out (z.memory (Gate j)) ≡ 1
    fresh_out x j k = l.counted.used_out x j (fresh_uses (z.seats x) j k)

    was_held : (x k j : ℕ) → holds (slot_of ((step_world z a (GateTake q)).seats x) k) j ≡ true → holds (slot_of (z.seats x) k) j ≡ true
    was_held x k j e = ⊎_elim (λ t. rw t.0 t.1) (λ t. t.1) (seat_split (λ d. holds (slot_of d k) j ≡ true) z.seats a x (record_by z a (GateTake q)) e)

    old_node : {P : Node → Type 0} (j : ℕ) → out (z.memory (Gate j)) ≡ 1 → HasNode h.nodes (p.node j) P
        → HasNode (h.nodes ++ new_node a ∷ []) ((with_taken q p).node j) P
    old_node {P} j o n = cases (j == q) refl
      where
        cases : (t : Bool) → (j == q) ≡ t → HasNode (h.nodes ++ new_node a ∷ []) (if t then p.given else p.node j) P
        cases true e = absurd (other_row j o (eqb-true j q e))
        cases false e = node-grown h.nodes (new_node a ∷ []) (p.node j) n

    new_there : {P : Node → Type 0} → P (new_node a) → HasNode (h.nodes ++ new_node a ∷ []) p.given P
    new_there k = rw (← s.given) (record { node = new_node a; there = get-added h.nodes (new_node a); so = k })

    taken_node : HasNode (h.nodes ++ new_node a ∷ []) ((with_taken q p).node q) (Owned a)
    taken_node = rw (eq-eqb q q refl) (new_there (record { giver = refl; unlinked = refl }))

    at_there : (j : ℕ) (t : Bool) → (j == q) ≡ t → out ((step_world z a (GateTake q)).memory (Gate j)) ≡ 1 → (if t then p.given else p.node j) < p.given + 1
    at_there j true e o = omega arith
    at_there j false e o = let k = s.there j (was_out j e o) in omega arith

    at_apart : (i j : ℕ) (t u : Bool) → (i == q) ≡ t → (j == q) ≡ u → out ((step_world z a (GateTake q)).memory (Gate i)) ≡ 1
        → out ((step_world z a (GateTake q)).memory (Gate j)) ≡ 1
        → (if t then p.given else p.node i) ≡ (if u then p.given else p.node j) → i ≡ j
    at_apart i j true true e f o u g = eqb-true i q e ∙ sym (eqb-true j q f)
    at_apart i j true false e f o u g = let k = s.there j (was_out j f u) in absurd (omega arith)
    at_apart i j false true e f o u g = let k = s.there i (was_out i e o) in absurd (omega arith)
    at_apart i j false false e f o u g = s.apart i j (was_out i e o) (was_out j f u) g

    at_row : (j : ℕ) (t : Bool) → (j == q) ≡ t → out ((step_world z a (GateTake q)).memory (Gate j)) ≡ 1
        → HasNode (h.nodes ++ new_node a ∷ []) (if t then p.given else p.node j) (RowShows b (step_world z a (GateTake q)) (with_taken q p) j)
    at_row j true e o =
        let zero : z.memory (Next j) ≡ 0 = rw (eqb-true j q e) (l.counted.free_null 0 q free) in
        let none : z.memory (Side j) ≡ 0 = rw (eqb-true j q e) (l.counted.free_null 1 q free) in
        new_there (record { link = inr (rw zero refl); side = inr (rw none refl); first = λ v k. cc; second = λ v k. cc })
    at_row j false e o = node-grown h.nodes (new_node a ∷ []) (p.node j) (node-map h.nodes (p.node j) (old_row j o (was_out j e o)) (s.rows j (was_out j e o)))
      where
        old_row : (j : ℕ) → out ((step_world z a (GateTake q)).memory (Gate j)) ≡ 1 → out (z.memory (Gate j)) ≡ 1 → (n : Node) → RowShows b z p j n
            → RowShows b (step_world z a (GateTake q)) (with_taken q p) j n
        old_row j o u n r = record {
          link = ⊎_elim
              (λ c. inl (cut_stays b z a (GateTake q) j 0 l o c))
              (λ e. inr (e ∙ sym (node_link-taken p q (link_of (z.memory (Next j))) (λ r e. other_row r (l.counted.links_out 0 j r u (named_row _ r e))))))
              r.link;
          side = ⊎_elim
              (λ c. inl (cut_stays b z a (GateTake q) j 1 l o c))
              (λ e. inr (e ∙ sym (node_link-taken p q (link_of (z.memory (Side j))) (λ r e. other_row r (l.counted.links_out 1 j r u (named_row _ r e))))))
              r.side;
          first = r.first;
          second = r.second;
        }

    at_next : (i j : ℕ) (t : Bool) → (i == q) ≡ t → out ((step_world z a (GateTake q)).memory (Gate i)) ≡ 1 → to_row (z.memory (Next i)) j ≡ 1
        → HasNode (h.nodes ++ new_node a ∷ []) ((with_taken q p).node j) Named
    at_next i j true e o k = absurd (zero_one (null_row (z.memory (Next i)) j (rw (eqb-true i q e) (l.counted.free_null 0 q free))) k)
    at_next i j false e o k = let u = was_out i e o in old_node j (l.counted.links_out 0 i j u k) (s.next_named i j u k)

    at_side : (i j : ℕ) (t : Bool) → (i == q) ≡ t → out ((step_world z a (GateTake q)).memory (Gate i)) ≡ 1 → to_row (z.memory (Side i)) j ≡ 1
        → HasNode (h.nodes ++ new_node a ∷ []) ((with_taken q p).node j) Named
    at_side i j true e o k = absurd (zero_one (null_row (z.memory (Side i)) j (rw (eqb-true i q e) (l.counted.free_null 1 q free))) k)
    at_side i j false e o k = let u = was_out i e o in old_node j (l.counted.links_out 1 i j u k) (s.side_named i j u k)
