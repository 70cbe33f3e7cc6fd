-- A link that is stored in a fresh row, or taken out of a doomed one.
use Rattle.std.proofs.Common.{Bool, arith, false, inl, inr, refl, subst, sym, true, ℕ, ⊎_elim, ◌+◌, ◌≡◌, zero, suc, ◌<◌}
use Rattle.std.proofs.lemmas.Bool.{eqb-true, false≢true, ltb-true}
use Rattle.std.specs.Option.{option_map}
use Rattle.std.specs.Prelude.{None, Option, Some, if◌then◌else◌, is_none, nat_lt, not, ◌&&◌, ◌==◌, ◌||◌}
use Rattle.orc_core.proofs.Within.{and_both}
use Rattle.orc_core.specs.After.{cut_of}
use Rattle.orc_core.specs.Allowed.{fits, may_change, may_target}
use Rattle.orc_core.specs.RecordParts.{any_holds, doom_at, holds, is_empty, names, slot_of}
use Rattle.orc_core.specs.declared.ops.Op.TheVariants.{LinkStore}
use Rattle.orc_core.specs.declared.records.Agent.{Agent}
use Rattle.orc_core.specs.declared.records.Doom.{Doom}
use Rattle.orc_heap.specs.Acts.{Fits, aim_act, as_named, change_node, change_target, heap_after, with_link, with_side}
use Rattle.orc_heap.specs.Heap.{Heap, Node}
use Rattle.orc_heap.specs.declared.events.Link.{Link}
use Rattle.orc_projection.proofs.LinkStep.{Relinks, next_shows, side_shows}
use Rattle.orc_projection.proofs.Links.{some-names}
use Rattle.orc_projection.proofs.Nodes.{is_fresh, node-map}
use Rattle.orc_projection.proofs.Shows.{Fitting, RowShows, Shows, heap_then, holder_knows, is_target}
use Rattle.orc_projection.proofs.Still.{cut_stays, fresh_before, out_before}
use Rattle.orc_projection.proofs.Steps.{held_out, named_marks, packs}
use Rattle.orc_projection.specs.PresentIds.{PresentIds, node_link}
use Rattle.orc_sound.proofs.DoomedStep.{number_below}
use Rattle.orc_sound.proofs.Fresh.{no_target}
use Rattle.orc_sound.proofs.Facts.{LawfulStep, out}
use Rattle.orc_sound.proofs.Outs.{store_row_out}
use Rattle.orc_sound.proofs.Seats.{seat_same, seat_split}
use Rattle.orc_sound.proofs.Sources.{links_source, root_source}
use Rattle.orc_sound.proofs.Uses.{links_held}
use Rattle.orc_sound.proofs.World.{World, record_by, step_world, write}
use Rattle.orc_sound.specs.Doomed.{cuts_past}
use Rattle.orc_words.specs.Bounds.{Bounds}
use Rattle.orc_words.specs.declared.packed.RowLink.{RowLink}
use Rattle.orc_words.specs.declared.place.Word.TheVariants.{Enrolled, First, Gate, Root, Second}
use Rattle.orc_words.specs.Packed.{link_of, link_word}
use Rattle.orc_words.specs.Places.{link_at}
use Rattle.orc_words.specs.declared.place.Word.{Word}

store_empty : (b : Bounds) (e a q nr : ℕ) (l : RowLink) (d : Agent) → fits b e a (LinkStore q l nr) d ≡ true → is_empty (slot_of d 0) ≡ true
store_empty b e a q nr l d f = grind arith

stored_null : (n y e f t c u s k : Bool) → (n && y && e && ((f && t && c) || (u && s && k))) ≡ true → f ≡ false → (u ≡ true) × (s ≡ true)
stored_null n y e true t c u s k h g = absurd (false≢true (sym g))
stored_null n y e false t c u s k h g = let i = and_both (u && s) k (and_both (n && y && e) (u && s && k) h).1 in and_both u s i.0

-- a link that is stored in a row that isn't fresh is null, and the row is doomed
pub store_doomed : (b : Bounds) (e a q nr : ℕ) (l : RowLink) (d : Agent) → fits b e a (LinkStore q l nr) d ≡ true → names d.fresh q ≡ false
    → (doom_at d.doom q nr ≡ true) × (is_none l.to ≡ true)
store_doomed b e a q nr l d f g = stored_null (nat_lt q b.rows) (nat_lt nr b.links) (is_empty (slot_of d 0)) (names d.fresh q) (may_target b d l.to)
    (may_change d (b.limit + 64) None l.to) (doom_at d.doom q nr) (is_none l.to) (not l.mark) f g

now_cut : (o : Option Doom) (q k : ℕ) → doom_at o q k ≡ true → cuts_past (cut_of o q k) q k ≡ true
now_cut None q k h = absurd (false≢true h)
now_cut (Some d) q k h = grind arith

was_held : (z : World) (a q nr : ℕ) (l : RowLink) (x k j : ℕ) → holds (slot_of ((step_world z a (LinkStore q l nr)).seats x) k) j ≡ true
    → holds (slot_of (z.seats x) k) j ≡ true
was_held z a q nr l x k j e = ⊎_elim (λ t. rw t.0 t.1) (λ t. t.1) (seat_split (λ d. holds (slot_of d k) j ≡ true) z.seats a x (record_by z a (LinkStore q l nr)) e)

doom_shows : (b : Bounds) (z : World) (p : PresentIds) (h : Heap) (a q nr : ℕ) (l : RowLink) → LawfulStep b z a (LinkStore q l nr)
    → names (z.seats a).fresh q ≡ false → Shows b z p h → Shows b (step_world z a (LinkStore q l nr)) p h
doom_shows b z p h a q nr l k f s = record {
  links = s.links;
  given = s.given;
  there = λ j o. s.there j (was_out j o);
  apart = λ i j o u e. s.apart i j (was_out i o) (was_out j u) e;
  roots = λ i g. same_roots i nr (s.roots i g);
  rows = λ j o. node-map h.nodes (p.node j) (λ n r. at_row j o (j == q) refl n r) (s.rows j (was_out j o));
  fresh = λ x j e. s.fresh x j (fresh_before z a (LinkStore q l nr) x j false≢true e);
  held = λ x i j g e. s.held x i j g (was_held z a q nr l x i j e);
  root_named = λ i j e. ⊎_elim (λ old. s.root_named i j old) (λ new. absurd (no_target l.to j doomed.1 (and_both _ _ new).1))
      (root_source b (z.memory Enrolled) a (LinkStore q l nr) (z.seats a) z.memory i j k.fits e);
  next_named = λ i j o e. ⊎_elim (λ old. s.next_named i j (was_out i o) old) (λ new. absurd (no_target l.to j doomed.1 (and_both _ _ new).1))
      (links_source b (z.memory Enrolled) a (LinkStore q l nr) (z.seats a) z.memory 0 i j k.fits e);
  side_named = λ i j o e. ⊎_elim (λ old. s.side_named i j (was_out i o) old) (λ new. absurd (no_target l.to j doomed.1 (and_both _ _ new).1))
      (links_source b (z.memory Enrolled) a (LinkStore q l nr) (z.seats a) z.memory 1 i j k.fits e);
}
  where
    doomed : (doom_at (z.seats a).doom q nr ≡ true) × (is_none l.to ≡ true)
    doomed = store_doomed b (z.memory Enrolled) a q nr l (z.seats a) k.fits f

    was_out : (j : ℕ) → out ((step_world z a (LinkStore q l nr)).memory (Gate j)) ≡ 1 → out (z.memory (Gate j)) ≡ 1
    was_out j o = out_before b z a (LinkStore q l nr) j k false≢true o

    same_roots : (i n : ℕ) {o : Option Link} → o ≡ Some (node_link p (link_of (z.memory (Root i))))
        → o ≡ Some (node_link p (link_of ((step_world z a (LinkStore q l n)).memory (Root i))))
    same_roots i zero e = e
    same_roots i (suc n) e = e

    -- the words of the doomed row, and of another
    own_row : (n : ℕ) → n < 2 → LawfulStep b z a (LinkStore q l n) → doom_at (z.seats a).doom q n ≡ true
        → (j : ℕ) → (j == q) ≡ true → out ((step_world z a (LinkStore q l n)).memory (Gate j)) ≡ 1
        → (x : Node) → RowShows b z p j x → RowShows b (step_world z a (LinkStore q l n)) p j x
    own_row zero small y d j e o x r = record {
      link = inl (record {
        agent = a;
        below = y.agent;
        cut = rw (seat_same z.seats a (record_by z a (LinkStore q l 0)), eqb-true j q e) (now_cut (z.seats a).doom q 0 d);
      });
      side = ⊎_elim (λ c. inl (cut_stays b z a (LinkStore q l 0) j 1 y o c)) (λ g. inr g) r.side;
      first = r.first;
      second = r.second;
    }
    own_row (suc zero) small y d j e o x r = record {
      link = ⊎_elim (λ c. inl (cut_stays b z a (LinkStore q l 1) j 0 y o c)) (λ g. inr g) r.link;
      side = inl (record {
        agent = a;
        below = y.agent;
        cut = rw (seat_same z.seats a (record_by z a (LinkStore q l 1)), eqb-true j q e) (now_cut (z.seats a).doom q 1 d);
      });
      first = r.first;
      second = r.second;
    }
    own_row (suc (suc n)) small y d j e o x r = absurd (omega arith)

    other_row : (n : ℕ) → LawfulStep b z a (LinkStore q l n) → (j : ℕ) → (j == q) ≡ false → out ((step_world z a (LinkStore q l n)).memory (Gate j)) ≡ 1
        → (x : Node) → RowShows b z p j x → RowShows b (step_world z a (LinkStore q l n)) p j x
    other_row zero y j e o x r = record {
      link = ⊎_elim (λ c. inl (cut_stays b z a (LinkStore q l 0) j 0 y o c)) (λ g. inr (rw e g)) r.link;
      side = ⊎_elim (λ c. inl (cut_stays b z a (LinkStore q l 0) j 1 y o c)) (λ g. inr g) r.side;
      first = r.first;
      second = r.second;
    }
    other_row (suc n) y j e o x r = record {
      link = ⊎_elim (λ c. inl (cut_stays b z a (LinkStore q l (suc n)) j 0 y o c)) (λ g. inr g) r.link;
      side = ⊎_elim (λ c. inl (cut_stays b z a (LinkStore q l (suc n)) j 1 y o c)) (λ g. inr (rw e g)) r.side;
      first = r.first;
      second = r.second;
    }

    at_row : (j : ℕ) → out ((step_world z a (LinkStore q l nr)).memory (Gate j)) ≡ 1 → (t : Bool) → (j == q) ≡ t → (n : Node) → RowShows b z p j n
        → RowShows b (step_world z a (LinkStore q l nr)) p j n
    at_row j o true e n r = own_row nr (number_below b z a q nr l k) k doomed.0 j e o n r
    at_row j o false e n r = other_row nr k j e o n r

target_held : (b : Bounds) (z : World) (a q nr : ℕ) (l : RowLink) (r : ℕ) → LawfulStep b z a (LinkStore q l nr) → l.to ≡ Some r → any_holds (z.seats a).slots r ≡ true
target_held b z a q nr l r k e = links_held b (z.memory Enrolled) a (LinkStore q l nr) (z.seats a) r k.fits (some-names l.to r e)

-- a link that is stored leaves the values
first_stays : (m : Word → ℕ) (q n v j : ℕ) → write m (link_at n q) v (First j) ≡ m (First j)
first_stays m q zero v j = refl
first_stays m q (suc n) v j = refl

second_stays : (m : Word → ℕ) (q n v j : ℕ) → write m (link_at n q) v (Second j) ≡ m (Second j)
second_stays m q zero v j = refl
second_stays m q (suc n) v j = refl

store_relinks : (b : Bounds) (z : World) (p : PresentIds) (h : Heap) (a q nr : ℕ) (l : RowLink) → LawfulStep b z a (LinkStore q l nr) → Shows b z p h
    → Relinks b z p h a (LinkStore q l nr) l as_named
store_relinks b z p h a q nr l k s = record {
  lawful = k;
  shows = s;
  marks = named_marks;
  back = packs b z l k.shape k.counted (λ r e. held_out b z a r k.counted (target_held b z a q nr l r k e));
  target = λ r e. holder_knows b z p h a r s (store_empty b (z.memory Enrolled) a q nr l (z.seats a) k.fits) (target_held b z a q nr l r k e);
  makes = λ v r e. (and_both _ _ e).1;
  slots = λ y i j e. was_held z a q nr l y i j e;
  no_take = λ j. false≢true;
  first = λ j. first_stays z.memory q nr (link_word l) j;
  second = λ j. second_stays z.memory q nr (link_word l) j;
  owned = λ y j n e g o. record { giver = o.giver; unlinked = o.unlinked };
}

aimed_link : (p : PresentIds) (l : RowLink) → l.mark ≡ false → (let x : Link = node_link p l in x) ≡ record { to = option_map p.node l.to; mark = false }
aimed_link p l e = λ i. record { to = option_map p.node l.to; mark = e i }

-- the row is fresh: its link of this number is aimed
aim_fits : (b : Bounds) (z : World) (p : PresentIds) (h : Heap) (a q nr : ℕ) (l : RowLink) → LawfulStep b z a (LinkStore q l nr) → Shows b z p h
    → names (z.seats a).fresh q ≡ true → Fits a (aim_act nr (p.node q) (option_map p.node l.to)) h
aim_fits b z p h a q zero l k s e = (
  is_fresh a (p.node q) h (s.fresh a q e),
  is_target a p h l.to (λ r g. holder_knows b z p h a r s (store_empty b (z.memory Enrolled) a q 0 l (z.seats a) k.fits) (target_held b z a q 0 l r k g)),
)
aim_fits b z p h a q (suc n) l k s e = (
  is_fresh a (p.node q) h (s.fresh a q e),
  is_target a p h l.to
      (λ r g. holder_knows b z p h a r s (store_empty b (z.memory Enrolled) a q (suc n) l (z.seats a) k.fits) (target_held b z a q (suc n) l r k g)),
  rw s.links (let i = ltb-true (suc n) b.links (and_both _ _ (and_both _ _ (and_both _ _ k.fits).0).0).1 in let j : 1 < b.links = omega arith in j),
)

aim_shows : (b : Bounds) (z : World) (p : PresentIds) (h : Heap) (a q nr : ℕ) (l : RowLink) → LawfulStep b z a (LinkStore q l nr) → l.mark ≡ false
    → Shows b z p h → Shows b (step_world z a (LinkStore q l nr)) p (heap_after a (aim_act nr (p.node q) (option_map p.node l.to)) h)
aim_shows b z p h a q zero l k plain s =
    subst (λ (x : Link). Shows b (step_world z a (LinkStore q l 0)) p
    (change_target as_named (option_map p.node l.to) (change_node (with_link x) (p.node q) h))) (aimed_link p l plain)
    (next_shows b z p h a (LinkStore q l 0) l as_named q (store_relinks b z p h a q 0 l k s) (store_row_out b z a q 0 l k) (λ j. refl) (λ j. refl) (λ j. refl))
aim_shows b z p h a q (suc n) l k plain s =
    subst (λ (x : Link). Shows b (step_world z a (LinkStore q l (suc n))) p
    (change_target as_named (option_map p.node l.to) (change_node (with_side x) (p.node q) h))) (aimed_link p l plain)
    (side_shows b z p h a (LinkStore q l (suc n)) l as_named q (store_relinks b z p h a q (suc n) l k s) (store_row_out b z a q (suc n) l k) (λ j. refl)
    (λ j. refl) (λ j. refl))

pub store_step : (b : Bounds) (z : World) (p : PresentIds) (h : Heap) (a q nr : ℕ) (l : RowLink) → LawfulStep b z a (LinkStore q l nr) → l.mark ≡ false
    → Shows b z p h → (t : Bool) → names (z.seats a).fresh q ≡ t
    → Fitting a (if t then Some (aim_act nr (p.node q) (option_map p.node l.to)) else None) h
    × Shows b (step_world z a (LinkStore q l nr)) p (heap_then a (if t then Some (aim_act nr (p.node q) (option_map p.node l.to)) else None) h)
store_step b z p h a q nr l k plain s true e = (aim_fits b z p h a q nr l k s e, aim_shows b z p h a q nr l k plain s)
store_step b z p h a q nr l k plain s false e = (tt, doom_shows b z p h a q nr l k e s)
