-- A value that is filled.
use Rattle.std.proofs.Common.{Bool, arith, cond, false, inl, inr, refl, suc, true, zero, ℕ, ⊎_elim, ◌<◌, ◌∙◌, ◌≡◌, ◌≢◌}
use Rattle.std.proofs.lemmas.Bool.{eq-eqb, false≢true, ltb-true, ne_eqb}
use Rattle.std.specs.Prelude.{nat_lt, ◌&&◌, ◌==◌}
use Rattle.orc_core.proofs.Within.{and_both}
use Rattle.orc_core.specs.RecordParts.{holds, names, slot_of}
use Rattle.orc_core.specs.declared.ops.Op.TheVariants.{Fill as FillStep}
use Rattle.orc_core.specs.declared.records.Agent.{Agent}
use Rattle.orc_heap.proofs.Changes.{length-change}
use Rattle.orc_heap.specs.Acts.{Fits, heap_after, with_value}
use Rattle.orc_heap.specs.Heap.{Heap, Node, change}
use Rattle.orc_heap.specs.declared.events.Act.TheVariants.{Fill}
use Rattle.orc_projection.proofs.Nodes.{HasNode, Known, Named, Owned, is_fresh, node-change}
use Rattle.orc_projection.proofs.Shows.{RowShows, Shows}
use Rattle.orc_projection.proofs.Still.{cut_stays, fresh_before, out_before}
use Rattle.orc_projection.specs.PresentIds.{PresentIds}
use Rattle.orc_sound.proofs.Facts.{LawfulStep, out}
use Rattle.orc_sound.proofs.Seats.{seat_split}
use Rattle.orc_sound.proofs.Uses.{fresh_uses}
use Rattle.orc_sound.proofs.World.{World, record_by, step_world, write}
use Rattle.orc_words.specs.Bounds.{Bounds}
use Rattle.orc_words.specs.declared.place.Word.{Word}
use Rattle.orc_words.specs.declared.place.Word.TheVariants.{First, Gate, Next, Root, Second, Side}

-- a value word that is written leaves the links
root_same : (m : Word → ℕ) (q v i : ℕ) (t : Bool) → write m (cond t (First q) (Second q)) v (Root i) ≡ m (Root i)
root_same m q v i true = refl
root_same m q v i false = refl

next_same : (m : Word → ℕ) (q v i : ℕ) (t : Bool) → write m (cond t (First q) (Second q)) v (Next i) ≡ m (Next i)
next_same m q v i true = refl
next_same m q v i false = refl

side_same : (m : Word → ℕ) (q v i : ℕ) (t : Bool) → write m (cond t (First q) (Second q)) v (Side i) ≡ m (Side i)
side_same m q v i true = refl
side_same m q v i false = refl

-- what a filled node keeps
known_filled : (x which v : ℕ) (n : Node) → Known x n → Known x (with_value which v n)
known_filled x zero v n k = record { known = k.known }
known_filled x (suc which) v n k = record { known = k.known }

named_filled : (which v : ℕ) (n : Node) → Named n → Named (with_value which v n)
named_filled zero v n k = record { named = k.named }
named_filled (suc which) v n k = record { named = k.named }

owned_filled : (x which v : ℕ) (n : Node) → Owned x n → Owned x (with_value which v n)
owned_filled x zero v n k = record { giver = k.giver; unlinked = k.unlinked }
owned_filled x (suc which) v n k = record { giver = k.giver; unlinked = k.unlinked }

fill_parts : (b : Bounds) (a q which : ℕ) (d : Agent) → (nat_lt q b.rows && nat_lt which 2 && names d.fresh q) ≡ true
    → (nat_lt which 2 ≡ true) × (names d.fresh q ≡ true)
fill_parts b a q which d f =
    let k = and_both (nat_lt q b.rows && nat_lt which 2) (names d.fresh q) f in
    ((and_both (nat_lt q b.rows) (nat_lt which 2) k.0).1, k.1)

-- the filled row shows the filled node
own_row : (b : Bounds) (z : World) (p : PresentIds) (a q which v : ℕ) → LawfulStep b z a (FillStep q which v)
    → out ((step_world z a (FillStep q which v)).memory (Gate q)) ≡ 1 → (n : Node) → RowShows b z p q n
    → RowShows b (step_world z a (FillStep q which v)) p q (with_value which v n)
own_row b z p a q zero v l o n r = record {
  link = ⊎_elim (λ c. inl (cut_stays b z a (FillStep q 0 v) q 0 l o c)) (λ e. inr e) r.link;
  side = ⊎_elim (λ c. inl (cut_stays b z a (FillStep q 0 v) q 1 l o c)) (λ e. inr e) r.side;
  first = λ u e. rw (eq-eqb q q refl) (cc);
  second = r.second;
}
own_row b z p a q (suc zero) v l o n r = record {
  link = ⊎_elim (λ c. inl (cut_stays b z a (FillStep q 1 v) q 0 l o c)) (λ e. inr e) r.link;
  side = ⊎_elim (λ c. inl (cut_stays b z a (FillStep q 1 v) q 1 l o c)) (λ e. inr e) r.side;
  first = r.first;
  second = λ u e. rw (eq-eqb q q refl) (cc);
}
own_row b z p a q (suc (suc which)) v l o n r = let k : suc (suc which) < 2 =
    ltb-true (suc (suc which)) 2 (fill_parts b a q (suc (suc which)) (z.seats a) l.fits).0 in absurd (omega arith)

-- and every other row its node
other_row : (b : Bounds) (z : World) (p : PresentIds) (a q which v j : ℕ) → LawfulStep b z a (FillStep q which v) → j ≢ q
    → out ((step_world z a (FillStep q which v)).memory (Gate j)) ≡ 1 → (n : Node) → RowShows b z p j n → RowShows b (step_world z a (FillStep q which v)) p j n
other_row b z p a q which v j l ne o n r = record {
  link = ⊎_elim (λ c. inl (cut_stays b z a (FillStep q which v) j 0 l o c)) (λ e. inr (rw (next_same z.memory q v j (which == 0)) e)) r.link;
  side = ⊎_elim (λ c. inl (cut_stays b z a (FillStep q which v) j 1 l o c)) (λ e. inr (rw (side_same z.memory q v j (which == 0)) e)) r.side;
  first = λ u e. rw (first_same (which == 0)) (r.first u e);
  second = λ u e. rw (second_same (which == 0)) (r.second u e);
}
  where
    first_same : (t : Bool) → write z.memory (cond t (First q) (Second q)) v (First j) ≡ z.memory (First j)
    first_same true = rw (ne_eqb j q ne)
    first_same false = refl

    second_same : (t : Bool) → write z.memory (cond t (First q) (Second q)) v (Second j) ≡ z.memory (Second j)
    second_same true = refl
    second_same false = rw (ne_eqb j q ne)

pub fill_shows : (b : Bounds) (z : World) (p : PresentIds) (h : Heap) (a q which v : ℕ) → LawfulStep b z a (FillStep q which v) → Shows b z p h
    → Shows b (step_world z a (FillStep q which v)) p (heap_after a (Fill (p.node q) which v) h)
fill_shows b z p h a q which v l s = record {
  links = s.links;
  given = length-change (with_value which v) (p.node q) h.nodes ∙ s.given;
  there = λ j o. s.there j (was_out j o);
  apart = λ i j o u e. s.apart i j (was_out i o) (was_out j u) e;
  roots = λ i k. rw (root_same z.memory q v i (which == 0)) (s.roots i k);
  rows = λ j o. node-change (with_value which v) (p.node q) (p.node j) h.nodes (λ n e r. at_own j o n (s.apart q j fresh_out (was_out j o) e) r)
      (λ n ne r. other_row b z p a q which v j l (λ e. ne (rw e)) o n r) (s.rows j (was_out j o));
  fresh = λ x j k. lift (owned_filled x which v) (s.fresh x j (fresh_before z a (FillStep q which v) x j false≢true k));
  held = λ x k j g e. lift (known_filled x which v) (s.held x k j g (was_held x k j e));
  root_named = λ i j k. lift (named_filled which v) (s.root_named i j (rw (root_same z.memory q v i (which == 0)) at k));
  next_named = λ i j o k. lift (named_filled which v) (s.next_named i j (was_out i o) (rw (next_same z.memory q v i (which == 0)) at k));
  side_named = λ i j o k. lift (named_filled which v) (s.side_named i j (was_out i o) (rw (side_same z.memory q v i (which == 0)) at k));
}
  where
    was_out : (j : ℕ) → out ((step_world z a (FillStep q which v)).memory (Gate j)) ≡ 1 → out (z.memory (Gate j)) ≡ 1
    was_out j o = out_before b z a (FillStep q which v) j l false≢true o

    fresh_out : out (z.memory (Gate q)) ≡ 1
    fresh_out = l.counted.used_out a q (fresh_uses (z.seats a) q (fill_parts b a q which (z.seats a) l.fits).1)

    was_held : (x k j : ℕ) → holds (slot_of ((step_world z a (FillStep q which v)).seats x) k) j ≡ true → holds (slot_of (z.seats x) k) j ≡ true
    was_held x k j e = ⊎_elim (λ t. rw t.0 t.1) (λ t. t.1) (seat_split (λ d. holds (slot_of d k) j ≡ true) z.seats a x (record_by z a (FillStep q which v)) e)

    lift : {P : Node → Type 0} {id : ℕ} → ((n : Node) → P n → P (with_value which v n)) → HasNode h.nodes id P
        → HasNode (change (with_value which v) (p.node q) h.nodes) id P
    lift {id = id} k n = node-change (with_value which v) (p.node q) id h.nodes (λ x e r. k x r) (λ x ne r. r) n

    at_own : (j : ℕ) → out ((step_world z a (FillStep q which v)).memory (Gate j)) ≡ 1 → (n : Node) → q ≡ j → RowShows b z p j n
        → RowShows b (step_world z a (FillStep q which v)) p j (with_value which v n)
    at_own j o n e r = rw (← e) (own_row b z p a q which v l (rw (← e) at o) n (rw (← e) at r))

pub fill_fits : (b : Bounds) (z : World) (p : PresentIds) (h : Heap) (a q which v : ℕ) → LawfulStep b z a (FillStep q which v) → Shows b z p h
    → Fits a (Fill (p.node q) which v) h
fill_fits b z p h a q which v l s =
    let k = fill_parts b a q which (z.seats a) l.fits in
    (is_fresh a (p.node q) h (s.fresh a q k.1), ltb-true which 2 k.0)
