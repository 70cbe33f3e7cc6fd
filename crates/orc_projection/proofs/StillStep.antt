-- A step that leaves links, values and the rows that are out as they are shows the same heap.
use Rattle.std.proofs.Common.{inl, inr, refl, true, ℕ, ⊎_elim, ◌≡◌}
use Rattle.orc_core.specs.RecordParts.{holds, slot_of}
use Rattle.orc_core.specs.declared.ops.Op.{Op}
use Rattle.orc_core.specs.declared.ops.Op.TheVariants.{LinkLoad, Publish, MoveOn}
use Rattle.orc_heap.specs.Heap.{Heap, Node}
use Rattle.orc_projection.proofs.Nodes.{HasNode, Known, Named, named_known, node-map, owned_known}
use Rattle.orc_projection.proofs.Shows.{RowShows, Shows}
use Rattle.orc_projection.proofs.Still.{NewlyHeld, cut_stays, fresh_before, hold_before, is_still, out_before, still_takes, still_words}
use Rattle.orc_projection.specs.PresentIds.{PresentIds}
use Rattle.orc_sound.proofs.Balances.{OutPlace}
use Rattle.orc_sound.proofs.Facts.{LawfulStep, out, to_row}
use Rattle.orc_sound.proofs.Outs.{load_place, read_out}
use Rattle.orc_sound.proofs.Seats.{seat_split}
use Rattle.orc_sound.proofs.World.{World, read_by, record_by, step_world}
use Rattle.orc_words.specs.Bounds.{Bounds}
use Rattle.orc_words.specs.declared.place.Word.{Word}
use Rattle.orc_words.specs.declared.place.Word.TheVariants.{Enrolled, First, Gate, Next, Root, Second, Side}

place_named : (b : Bounds) (z : World) (p : PresentIds) (h : Heap) (w : Word) (j : ℕ) → Shows b z p h → OutPlace z.memory w
    → to_row (z.memory w) j ≡ 1 → HasNode h.nodes (p.node j) Named
place_named b z p h (Root i) j s o t = s.root_named i j t
place_named b z p h (Next i) j s o t = s.next_named i j o t
place_named b z p h (Side i) j s o t = s.side_named i j o t
place_named b z p h w j s o t = absurd o

newly_known : (b : Bounds) (z : World) (p : PresentIds) (h : Heap) (a : ℕ) (op : Op) (j : ℕ) → LawfulStep b z a op → Shows b z p h
    → NewlyHeld op (z.seats a) (read_by z a op) j → HasNode h.nodes (p.node j) (Known a)
newly_known b z p h a (LinkLoad w k) j l s n =
    node-map h.nodes (p.node j) (named_known a)
    (place_named b z p h w j s (read_out b z a w l.counted (load_place b (z.memory Enrolled) a w k (z.seats a) l.fits)) n)
newly_known b z p h a (Publish k q) j l s n = node-map h.nodes (p.node j) (owned_known a) (s.fresh a j n)
newly_known b z p h a (MoveOn k q) j l s n = node-map h.nodes (p.node j) (owned_known a) (s.fresh a j n)
newly_known b z p h a op j l s n = absurd n

still_row : (b : Bounds) (z : World) (p : PresentIds) (a : ℕ) (op : Op) (j : ℕ) → LawfulStep b z a op
    → is_still op (z.seats a) (read_by z a op) ≡ true → out ((step_world z a op).memory (Gate j)) ≡ 1 → (n : Node) → RowShows b z p j n
    → RowShows b (step_world z a op) p j n
still_row b z p a op j l q o n r = record {
  link = ⊎_elim (λ c. inl (cut_stays b z a op j 0 l o c)) (λ e. inr (rw (still_words a op (z.seats a) z.memory (Next j) q refl) e)) r.link;
  side = ⊎_elim (λ c. inl (cut_stays b z a op j 1 l o c)) (λ e. inr (rw (still_words a op (z.seats a) z.memory (Side j) q refl) e)) r.side;
  first = λ v e. rw (still_words a op (z.seats a) z.memory (First j) q refl) (r.first v e);
  second = λ v e. rw (still_words a op (z.seats a) z.memory (Second j) q refl) (r.second v e);
}

pub still_shows : (b : Bounds) (z : World) (p : PresentIds) (h : Heap) (a : ℕ) (op : Op) → LawfulStep b z a op
    → is_still op (z.seats a) (read_by z a op) ≡ true → Shows b z p h → Shows b (step_world z a op) p h
still_shows b z p h a op l q s = record {
  links = s.links;
  given = s.given;
  there = λ j o. s.there j (was_out j o);
  apart = λ i j o u e. s.apart i j (was_out i o) (was_out j u) e;
  roots = λ i k. rw (still_words a op (z.seats a) z.memory (Root i) q refl) (s.roots i k);
  rows = λ j o. node-map h.nodes (p.node j) (still_row b z p a op j l q o) (s.rows j (was_out j o));
  fresh = λ x j k. s.fresh x j (fresh_before z a op x j (still_takes op (z.seats a) (read_by z a op) j q) k);
  held = λ x k j g e. ⊎_elim
      (λ t. ⊎_elim (λ old. rw t.0 (s.held a k j g old)) (λ new. rw t.0 (newly_known b z p h a op j l s new))
      (hold_before b (z.memory Enrolled) a op (z.seats a) (read_by z a op) k j l.fits g t.1))
      (λ t. s.held x k j g t.1)
      (seat_split (λ d. holds (slot_of d k) j ≡ true) z.seats a x (record_by z a op) e);
  root_named = λ i j k. s.root_named i j (rw (still_words a op (z.seats a) z.memory (Root i) q refl) at k);
  next_named = λ i j o k. s.next_named i j (was_out i o) (rw (still_words a op (z.seats a) z.memory (Next i) q refl) at k);
  side_named = λ i j o k. s.side_named i j (was_out i o) (rw (still_words a op (z.seats a) z.memory (Side i) q refl) at k);
}
  where
    was_out : (j : ℕ) → out ((step_world z a op).memory (Gate j)) ≡ 1 → out (z.memory (Gate j)) ≡ 1
    was_out j o = out_before b z a op j l (still_takes op (z.seats a) (read_by z a op) j q) o
