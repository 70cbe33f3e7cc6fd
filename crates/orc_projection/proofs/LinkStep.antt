-- A link that is changed, at a root or in a row, is the same change of the heap.
use Rattle.std.proofs.Common.{Bool, ap, cond, false, inl, inr, length, refl, sym, true, ℕ, ⊎_elim, ◌<◌, ◌∙◌, ◌≡◌, ◌≢◌}
use Rattle.orc_heap.proofs.Moved.{target_length, target_links, target_roots}
use Rattle.std.proofs.lemmas.Bool.{eq-eqb, eqb-false, eqb-true, ne_eqb}
use Rattle.std.specs.Option.{option_map}
use Rattle.std.specs.Prelude.{Option, Some, slice_get, ◌==◌}
use Rattle.orc_core.specs.RecordParts.{holds, names, slot_of}
use Rattle.orc_core.specs.declared.ops.Op.{Op}
use Rattle.orc_heap.proofs.Changes.{get-change_other, get-change_same, length-change}
use Rattle.orc_heap.specs.Acts.{change_node, change_target, set_link, with_link, with_side}
use Rattle.orc_heap.specs.Heap.{Heap, Node, change}
use Rattle.orc_heap.specs.declared.events.Link.{Link}
use Rattle.orc_heap.specs.declared.events.Place.TheVariants.{Root as RootPlace}
use Rattle.orc_projection.proofs.Links.{names-some}
use Rattle.orc_projection.proofs.Nodes.{HasNode, Known, Named, Owned, node-aimed, node-change, node-map, node-target}
use Rattle.orc_projection.proofs.Shows.{RowShows, Shows}
use Rattle.orc_projection.proofs.Still.{cut_stays, fresh_before, out_before}
use Rattle.orc_projection.specs.PresentIds.{PresentIds, node_link}
use Rattle.orc_sound.proofs.Facts.{LawfulStep, out}
use Rattle.orc_sound.proofs.Sources.{links_source, puts, root_source, takes}
use Rattle.orc_sound.proofs.World.{World, read_by, step_world}
use Rattle.orc_words.specs.Bounds.{Bounds}
use Rattle.orc_words.specs.Packed.{link_of, link_word}
use Rattle.orc_words.specs.declared.packed.RowLink.{RowLink}
use Rattle.orc_words.specs.declared.place.Word.{Word}
use Rattle.orc_words.specs.declared.place.Word.TheVariants.{Enrolled, First, Gate, Next, Root, Second, Side}

-- a change of a node that has a link made to it
pub record Marks (f : Node → Node) : Type 0 where
  pub named : (n : Node) → (f n).named ≡ true
  pub link : (n : Node) → (f n).link ≡ n.link
  pub side : (n : Node) → (f n).side ≡ n.side
  pub first : (n : Node) → (f n).first ≡ n.first
  pub second : (n : Node) → (f n).second ≡ n.second

-- a step that makes a link l
pub record Relinks (b : Bounds) (z : World) (p : PresentIds) (h : Heap) (a : ℕ) (op : Op) (l : RowLink) (f : Node → Node) : Type 0 where
  pub lawful : LawfulStep b z a op
  pub shows : Shows b z p h
  pub marks : Marks f
  pub back : link_of (link_word l) ≡ l
  pub target : (r : ℕ) → l.to ≡ Some r → HasNode h.nodes (p.node r) (Known a)
  pub makes : (w : Word) (r : ℕ) → puts op w r ≡ true → names l.to r ≡ true
  pub slots : (x k j : ℕ) → holds (slot_of ((step_world z a op).seats x) k) j ≡ true → holds (slot_of (z.seats x) k) j ≡ true
  pub no_take : (j : ℕ) → takes op (z.seats a) (read_by z a op) j ≡ true → ⊥
  pub first : (j : ℕ) → (step_world z a op).memory (First j) ≡ z.memory (First j)
  pub second : (j : ℕ) → (step_world z a op).memory (Second j) ≡ z.memory (Second j)
  -- a row that still is fresh isn't linked by a Move
  pub owned : (x j : ℕ) (n : Node) → names ((step_world z a op).seats x).fresh j ≡ true → option_map p.node l.to ≡ Some (p.node j) → Owned x n → Owned x (f n)

-- the heap g has the new link at its place; then its target is marked
relinked : (b : Bounds) (z : World) (p : PresentIds) (h : Heap) (a : ℕ) (op : Op) (l : RowLink) (f : Node → Node) → Relinks b z p h a op l f
    → (g : Heap) → length g.nodes ≡ length h.nodes
    → g.links ≡ h.links
    → ((P : Node → Type 0) (id : ℕ) → ((n : Node) (k : Link) → P n → P (with_link k n)) → ((n : Node) (k : Link) → P n → P (with_side k n))
    → HasNode h.nodes id P → HasNode g.nodes id P)
    → ((i : ℕ) → i < b.roots → slice_get g.roots i ≡ Some (node_link p (link_of ((step_world z a op).memory (Root i)))))
    → ((j : ℕ) → out ((step_world z a op).memory (Gate j)) ≡ 1 → HasNode g.nodes (p.node j) (RowShows b (step_world z a op) p j))
    → Shows b (step_world z a op) p (change_target f (option_map p.node l.to) g)
relinked b z p h a op l f r g long same lift roots rows = record {
  links = target_links f to g ∙ same ∙ r.shows.links;
  given = target_length f to g ∙ long ∙ r.shows.given;
  there = λ j o. r.shows.there j (was_out j o);
  apart = λ i j o u e. r.shows.apart i j (was_out i o) (was_out j u) e;
  roots = λ i k. ap (λ xs. slice_get xs i) (target_roots f to g) ∙ roots i k;
  rows = λ j o. node-target f to g (p.node j) (λ n e s. marked_row j n s) (rows j o);
  fresh = λ x j k. node-target f to g (p.node j) (λ n e o. r.owned x j n k e o)
      (lift (Owned x) (p.node j) (λ n k o. record { giver = o.giver; unlinked = o.unlinked })
      (λ n k o. record { giver = o.giver; unlinked = o.unlinked }) (r.shows.fresh x j (fresh_before z a op x j (r.no_take j) k)));
  held = λ x k j o e. node-target f to g (p.node j) (λ n e o. record { known = inr (r.marks.named n) })
      (lift (Known x) (p.node j) (λ n k o. record { known = o.known }) (λ n k o. record { known = o.known }) (r.shows.held x k j o (r.slots x k j e)));
  root_named = λ i j k. ⊎_elim (λ old. old_named j (r.shows.root_named i j old)) (λ new. new_named j (r.makes (Root i) j new))
      (root_source b (z.memory Enrolled) a op (z.seats a) z.memory i j r.lawful.fits k);
  next_named = λ i j o k. ⊎_elim (λ old. old_named j (r.shows.next_named i j (was_out i o) old)) (λ new. new_named j (r.makes (Next i) j new))
      (links_source b (z.memory Enrolled) a op (z.seats a) z.memory 0 i j r.lawful.fits k);
  side_named = λ i j o k. ⊎_elim (λ old. old_named j (r.shows.side_named i j (was_out i o) old)) (λ new. new_named j (r.makes (Side i) j new))
      (links_source b (z.memory Enrolled) a op (z.seats a) z.memory 1 i j r.lawful.fits k);
}
  where
    to : Option ℕ
    to = option_map p.node l.to

    was_out : (j : ℕ) → out ((step_world z a op).memory (Gate j)) ≡ 1 → out (z.memory (Gate j)) ≡ 1
    was_out j o = out_before b z a op j r.lawful (r.no_take j) o

    marked_row : (j : ℕ) (n : Node) → RowShows b (step_world z a op) p j n → RowShows b (step_world z a op) p j (f n)
    marked_row j n s = record {
      link = ⊎_elim (λ c. inl c) (λ e. inr (r.marks.link n ∙ e)) s.link;
      side = ⊎_elim (λ c. inl c) (λ e. inr (r.marks.side n ∙ e)) s.side;
      first = λ v e. s.first v (sym (r.marks.first n) ∙ e);
      second = λ v e. s.second v (sym (r.marks.second n) ∙ e);
    }

    old_named : (j : ℕ) → HasNode h.nodes (p.node j) Named → HasNode (change_target f to g).nodes (p.node j) Named
    old_named j n = node-target f to g (p.node j) (λ x e o. record { named = r.marks.named x }) (lift Named (p.node j) (λ n k o. record { named = o.named }) (λ n k o. record { named = o.named }) n)

    new_named : (j : ℕ) → names l.to j ≡ true → HasNode (change_target f to g).nodes (p.node j) Named
    new_named j e =
        let k = names-some l.to j e in
        node-aimed f to g (p.node j) (ap (option_map p.node) k) (λ x o. record { named = r.marks.named x })
        (lift (Known a) (p.node j) (λ n k o. record { known = o.known }) (λ n k o. record { known = o.known }) (r.target j k))

-- the words of a row that is out after the step, where its links stay
kept_row : (b : Bounds) (z : World) (p : PresentIds) (h : Heap) (a : ℕ) (op : Op) (l : RowLink) (f : Node → Node) (j : ℕ) → Relinks b z p h a op l f
    → (step_world z a op).memory (Next j) ≡ z.memory (Next j) → (step_world z a op).memory (Side j) ≡ z.memory (Side j)
    → out ((step_world z a op).memory (Gate j)) ≡ 1
    → (n : Node) → RowShows b z p j n → RowShows b (step_world z a op) p j n
kept_row b z p h a op l f j r e i o n s = record {
  link = ⊎_elim (λ c. inl (cut_stays b z a op j 0 r.lawful o c)) (λ k. inr (rw e k)) s.link;
  side = ⊎_elim (λ c. inl (cut_stays b z a op j 1 r.lawful o c)) (λ k. inr (rw i k)) s.side;
  first = λ v k. r.first j ∙ s.first v k;
  second = λ v k. r.second j ∙ s.second v k;
}

pub root_shows : (b : Bounds) (z : World) (p : PresentIds) (h : Heap) (a : ℕ) (op : Op) (l : RowLink) (f : Node → Node) (i : ℕ)
    → Relinks b z p h a op l f → i < b.roots
    → ((j : ℕ) → (step_world z a op).memory (Root j) ≡ cond (j == i) (link_word l) (z.memory (Root j)))
    → ((j : ℕ) → (step_world z a op).memory (Next j) ≡ z.memory (Next j)) → ((j : ℕ) → (step_world z a op).memory (Side j) ≡ z.memory (Side j))
    → Shows b (step_world z a op) p (change_target f (option_map p.node l.to) (set_link (RootPlace i) (node_link p l) h))
root_shows b z p h a op l f i r below root next side =
    relinked b z p h a op l f r (set_link (RootPlace i) (node_link p l) h) refl refl (λ P id k i n. n) (λ j k. rw (root j) (at_root j k (j == i) refl))
    (λ j o. node-map h.nodes (p.node j) (kept_row b z p h a op l f j r (next j) (side j) o) (r.shows.rows j (out_before b z a op j r.lawful (r.no_take j) o)))
  where
    at_root : (j : ℕ) → j < b.roots → (t : Bool) → (j == i) ≡ t
        → slice_get (change (λ x. node_link p l) i h.roots) j ≡ Some (node_link p (link_of (cond t (link_word l) (z.memory (Root j)))))
    at_root j k true e =
        rw (eqb-true j i e) (get-change_same (λ x. node_link p l) i h.roots _ (r.shows.roots i below) ∙ ap (λ (x : RowLink). Some (node_link p x)) (sym r.back))
    at_root j k false e = get-change_other (λ x. node_link p l) i j h.roots (eqb-false j i e) ∙ r.shows.roots j k

pub next_shows : (b : Bounds) (z : World) (p : PresentIds) (h : Heap) (a : ℕ) (op : Op) (l : RowLink) (f : Node → Node) (q : ℕ)
    → Relinks b z p h a op l f → out (z.memory (Gate q)) ≡ 1
    → ((j : ℕ) → (step_world z a op).memory (Next j) ≡ cond (j == q) (link_word l) (z.memory (Next j)))
    → ((j : ℕ) → (step_world z a op).memory (Side j) ≡ z.memory (Side j)) → ((j : ℕ) → (step_world z a op).memory (Root j) ≡ z.memory (Root j))
    → Shows b (step_world z a op) p (change_target f (option_map p.node l.to) (change_node (with_link (node_link p l)) (p.node q) h))
next_shows b z p h a op l f q r is_out next stay root =
    relinked b z p h a op l f r (change_node (with_link (node_link p l)) (p.node q) h) (length-change _ (p.node q) h.nodes) refl
    (λ P id k i n. node-change (with_link (node_link p l)) (p.node q) id h.nodes (λ x e o. k x (node_link p l) o) (λ x ne o. o) n)
    (λ j k. rw (root j) (r.shows.roots j k))
    (λ j o. let u = out_before b z a op j r.lawful (r.no_take j) o in
    node-change (with_link (node_link p l)) (p.node q) (p.node j) h.nodes (λ n e s. own j o n (r.shows.apart q j is_out u e) s)
    (λ n ne s. kept_row b z p h a op l f j r (other j ne) (stay j) o n s) (r.shows.rows j u))
  where
    own : (j : ℕ) → out ((step_world z a op).memory (Gate j)) ≡ 1 → (n : Node) → q ≡ j → RowShows b z p j n
        → RowShows b (step_world z a op) p j (with_link (node_link p l) n)
    own j o n e s = record {
      link = inr (ap (node_link p) (sym r.back ∙ ap link_of (sym (next j ∙ ap (λ t. cond t (link_word l) (z.memory (Next j))) (eq-eqb j q (sym e))))));
      side = ⊎_elim (λ c. inl (cut_stays b z a op j 1 r.lawful o c)) (λ k. inr (rw (stay j) k)) s.side;
      first = λ v k. r.first j ∙ s.first v k;
      second = λ v k. r.second j ∙ s.second v k;
    }

    other : (j : ℕ) → p.node q ≢ p.node j → (step_world z a op).memory (Next j) ≡ z.memory (Next j)
    other j ne = next j ∙ ap (λ t. cond t (link_word l) (z.memory (Next j))) (ne_eqb j q (λ e. ne (rw e)))

pub side_shows : (b : Bounds) (z : World) (p : PresentIds) (h : Heap) (a : ℕ) (op : Op) (l : RowLink) (f : Node → Node) (q : ℕ)
    → Relinks b z p h a op l f → out (z.memory (Gate q)) ≡ 1
    → ((j : ℕ) → (step_world z a op).memory (Side j) ≡ cond (j == q) (link_word l) (z.memory (Side j)))
    → ((j : ℕ) → (step_world z a op).memory (Next j) ≡ z.memory (Next j)) → ((j : ℕ) → (step_world z a op).memory (Root j) ≡ z.memory (Root j))
    → Shows b (step_world z a op) p (change_target f (option_map p.node l.to) (change_node (with_side (node_link p l)) (p.node q) h))
side_shows b z p h a op l f q r is_out next stay root =
    relinked b z p h a op l f r (change_node (with_side (node_link p l)) (p.node q) h) (length-change _ (p.node q) h.nodes) refl
    (λ P id k i n. node-change (with_side (node_link p l)) (p.node q) id h.nodes (λ x e o. i x (node_link p l) o) (λ x ne o. o) n)
    (λ j k. rw (root j) (r.shows.roots j k))
    (λ j o. let u = out_before b z a op j r.lawful (r.no_take j) o in
    node-change (with_side (node_link p l)) (p.node q) (p.node j) h.nodes (λ n e s. own j o n (r.shows.apart q j is_out u e) s)
    (λ n ne s. kept_row b z p h a op l f j r (stay j) (other j ne) o n s) (r.shows.rows j u))
  where
    own : (j : ℕ) → out ((step_world z a op).memory (Gate j)) ≡ 1 → (n : Node) → q ≡ j → RowShows b z p j n
        → RowShows b (step_world z a op) p j (with_side (node_link p l) n)
    own j o n e s = record {
      side = inr (ap (node_link p) (sym r.back ∙ ap link_of (sym (next j ∙ ap (λ t. cond t (link_word l) (z.memory (Side j))) (eq-eqb j q (sym e))))));
      link = ⊎_elim (λ c. inl (cut_stays b z a op j 0 r.lawful o c)) (λ k. inr (rw (stay j) k)) s.link;
      first = λ v k. r.first j ∙ s.first v k;
      second = λ v k. r.second j ∙ s.second v k;
    }

    other : (j : ℕ) → p.node q ≢ p.node j → (step_world z a op).memory (Side j) ≡ z.memory (Side j)
    other j ne = next j ∙ ap (λ t. cond t (link_word l) (z.memory (Side j))) (ne_eqb j q (λ e. ne (rw e)))
