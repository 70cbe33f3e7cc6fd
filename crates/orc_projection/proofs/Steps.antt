-- The act of a step fits the heap that the state shows, and the state after it shows the heap after the act.
use Rattle.std.proofs.Common.{Bool, ap, arith, false, refl, subst, sym, true, ℕ, ⊎_elim, ◌+◌, ◌∙◌, ◌≡◌, ◌≢◌}
use Rattle.std.proofs.lemmas.Bool.{eq-eqb, eqb-false, eqb-true, false≢true, ltb-true}
use Rattle.std.specs.Option.{option_map}
use Rattle.std.specs.Prelude.{None, Option, Some, if◌then◌else◌, nat_lt, not, ◌&&◌, ◌==◌, ◌||◌}
use Rattle.orc_core.proofs.Within.{and_both}
use Rattle.orc_core.specs.Allowed.{may_change, may_place, may_target}
use Rattle.orc_core.specs.RecordParts.{any_holds, holds, is_empty, names, slot_of}
use Rattle.orc_core.specs.declared.ops.Op.TheVariants.{GateTake, LinkCas, LinkLoad}
use Rattle.orc_core.specs.declared.records.Agent.{Agent}
use Rattle.orc_heap.specs.Acts.{Fits, as_linked, as_named, heap_after}
use Rattle.orc_heap.specs.Heap.{Heap, shown}
use Rattle.orc_heap.specs.declared.events.Act.{Act}
use Rattle.orc_heap.specs.declared.events.Act.TheVariants.{Give, Look, Miss, Move}
use Rattle.orc_heap.specs.declared.events.Place.{Place}
use Rattle.orc_heap.specs.declared.events.Place.TheVariants.{Next as NodePlace, Root as RootPlace, Side as SidePlace}
use Rattle.orc_projection.proofs.LinkStep.{Marks, Relinks, next_shows, root_shows, side_shows}
use Rattle.orc_projection.proofs.Links.{link_back, named_row, node_link-same, some-names, word_back}
use Rattle.orc_projection.proofs.Shows.{Fitting, Shows, heap_then, holder_knows, is_target, next_shown, side_shown, small_word}
use Rattle.orc_projection.proofs.Still.{fresh_before, not-false}
use Rattle.orc_projection.proofs.StillStep.{still_shows}
use Rattle.orc_projection.proofs.TakeStep.{take_shows}
use Rattle.orc_projection.specs.PresentIds.{PresentIds, node_link, with_taken}
use Rattle.orc_projection.specs.Projection.{act_of, exchange_act, is_taken, load_act}
use Rattle.orc_sound.proofs.Balances.{OutPlace, to_row-link}
use Rattle.orc_sound.proofs.DoomedStep.{out_below}
use Rattle.orc_sound.proofs.Facts.{Counted, LawfulStep, out}
use Rattle.orc_sound.proofs.Outs.{cas_place, cas_place_out, held_or_fresh, load_place, read_out, target_out, zero_one}
use Rattle.orc_sound.proofs.Seats.{both_ways, seat_split}
use Rattle.orc_sound.proofs.Uses.{fresh_uses, held_uses}
use Rattle.orc_sound.proofs.World.{World, record_by, step_world, write}
use Rattle.orc_sound.specs.Journals.{IsHeldOrNull, IsWanted}
use Rattle.orc_sound.specs.Linked.{uses}
use Rattle.orc_words.specs.Bounds.{Bounds, IsShape}
use Rattle.orc_words.specs.Packed.{bit, link_of, link_word}
use Rattle.orc_words.specs.declared.packed.RowLink.{RowLink}
use Rattle.orc_words.specs.declared.place.Word.{Word}
use Rattle.orc_words.specs.declared.place.Word.TheVariants.{Enrolled, First, Gate, Next, Root, Second, Side}

-- another word than that of a link is another link of nodes
differs : (b : Bounds) (z : World) (p : PresentIds) (h : Heap) (w : Word) (k : RowLink) → IsShape b → Counted b z → OutPlace z.memory w → Shows b z p h
    → ((r : ℕ) → k.to ≡ Some r → out (z.memory (Gate r)) ≡ 1) → (z.memory w == link_word k) ≡ false → node_link p (link_of (z.memory w)) ≢ node_link p k
differs b z p h w k shape c o s outs lost e =
    let same = node_link-same p (link_of (z.memory w)) k (λ q r x y g. s.apart q r (target_out b z w q c o (named_row (z.memory w) q x)) (outs r y) g) e in
    eqb-false (z.memory w) (link_word k) lost (sym (word_back (z.memory w) (small_word b z w shape c o)) ∙ ap link_word same)

pub packs : (b : Bounds) (z : World) (l : RowLink) → IsShape b → Counted b z → ((r : ℕ) → l.to ≡ Some r → out (z.memory (Gate r)) ≡ 1)
    → link_of (link_word l) ≡ l
packs b z l shape c outs = link_back l (λ r e. let k = out_below b z r c (outs r e) in let m = shape.rows.1 in omega arith)

pub held_out : (b : Bounds) (z : World) (a r : ℕ) → Counted b z → any_holds (z.seats a).slots r ≡ true → out (z.memory (Gate r)) ≡ 1
held_out b z a r c h = c.used_out a r (held_uses (z.seats a) r h)

-- a load finds the link, or another one than was wanted
load_fits : (a : ℕ) (p : PresentIds) (h : Heap) (v : ℕ) (want : Option RowLink) (place : Place) → shown h place ≡ Some (node_link p (link_of v))
    → ((k : RowLink) → want ≡ Some k → (v == link_word k) ≡ false → node_link p (link_of v) ≢ node_link p k) → Fits a (load_act p v want place) h
    × (heap_after a (load_act p v want place) h ≡ h)
load_fits a p h v None place e n = (e, refl)
load_fits a p h v (Some k) place e n = cases (v == link_word k) refl
  where
    look : Act
    look = Look place (node_link p (link_of v))

    miss : Act
    miss = Miss place (node_link p k) (node_link p (link_of v))

    cases : (t : Bool) → (v == link_word k) ≡ t → Fits a (if t then look else miss) h × (heap_after a (if t then look else miss) h ≡ h)
    cases true g = (e, refl)
    cases false g = ((e, n k refl g), refl)

wanted_out : (b : Bounds) (z : World) (a : ℕ) (o : Option ℕ) (r : ℕ) → Counted b z → IsHeldOrNull (z.seats a) o → o ≡ Some r → out (z.memory (Gate r)) ≡ 1
wanted_out b z a None r c w e = cc
wanted_out b z a (Some q) r c w e = let k : q ≡ r = cc in rw (← k) (held_out b z a q c w)

wanted_link : (b : Bounds) (z : World) (a : ℕ) (w : Word) (slot : Option ℕ) (want : Option RowLink) (k : RowLink) (r : ℕ) → Counted b z
    → IsWanted (z.seats a) (LinkLoad w slot) want → want ≡ Some k → k.to ≡ Some r → out (z.memory (Gate r)) ≡ 1
wanted_link b z a w slot None k r c u e g = cc
wanted_link b z a w slot (Some l) k r c u e g = let x : l ≡ k = cc in wanted_out b z a l.to r c u (ap (λ (y : RowLink). y.to) x ∙ g)

load_at : (b : Bounds) (z : World) (p : PresentIds) (h : Heap) (a : ℕ) (w : Word) (slot : Option ℕ) (want : Option RowLink) (place : Place)
    → LawfulStep b z a (LinkLoad w slot) → IsWanted (z.seats a) (LinkLoad w slot) want → Shows b z p h
    → shown h place ≡ Some (node_link p (link_of (z.memory w)))
    → Fits a (load_act p (z.memory w) want place) h × Shows b (step_world z a (LinkLoad w slot)) p (heap_after a (load_act p (z.memory w) want place) h)
load_at b z p h a w slot want place l u s e =
    let o = read_out b z a w l.counted (load_place b (z.memory Enrolled) a w slot (z.seats a) l.fits) in
    let f = load_fits a p h (z.memory w) want place e
    (λ k g lost. differs b z p h w k l.shape l.counted o s (λ r y. wanted_link b z a w slot want k r l.counted u g y) lost) in
    (f.0, subst (λ g. Shows b (step_world z a (LinkLoad w slot)) p g) (sym f.1) (still_shows b z p h a (LinkLoad w slot) l refl s))

pub load_step : (b : Bounds) (z : World) (p : PresentIds) (h : Heap) (a : ℕ) (w : Word) (slot : Option ℕ) (want : Option RowLink)
    → LawfulStep b z a (LinkLoad w slot) → IsWanted (z.seats a) (LinkLoad w slot) want → Shows b z p h
    → Fitting a (act_of p (z.seats a) (z.memory w) (LinkLoad w slot) want) h
    × Shows b (step_world z a (LinkLoad w slot)) p (heap_then a (act_of p (z.seats a) (z.memory w) (LinkLoad w slot) want) h)
load_step b z p h a (Root i) slot want l u s =
    load_at b z p h a (Root i) slot want (RootPlace i) l u s
    (s.roots i (ltb-true i b.roots (load_place b (z.memory Enrolled) a (Root i) slot (z.seats a) l.fits)))
load_step b z p h a (Next q) slot want l u s =
    let k = (and_both (nat_lt q b.rows) (any_holds (z.seats a).slots q || names (z.seats a).fresh q)
    (load_place b (z.memory Enrolled) a (Next q) slot (z.seats a) l.fits)).1 in
    load_at b z p h a (Next q) slot want (NodePlace (p.node q)) l u s (next_shown b z p h a q l.counted l.doomed s (held_or_fresh (z.seats a) q k))
load_step b z p h a (Side q) slot want l u s =
    let f = load_place b (z.memory Enrolled) a (Side q) slot (z.seats a) l.fits in
    let k = and_both (nat_lt q b.rows && nat_lt 1 b.links) (any_holds (z.seats a).slots q || names (z.seats a).fresh q) f in
    load_at b z p h a (Side q) slot want (SidePlace (p.node q)) l u s
    (side_shown b z p h a q l.counted l.doomed s (held_or_fresh (z.seats a) q k.1) (and_both (nat_lt q b.rows) (nat_lt 1 b.links) k.0).1)
load_step b z p h a w slot want l u s = absurd (false≢true (load_place b (z.memory Enrolled) a w slot (z.seats a) l.fits))

-- what a compare_exchange of a link asks
record Exchange (b : Bounds) (z : World) (a : ℕ) (w : Word) (x t : RowLink) : Type 0 where
  empty : is_empty (slot_of (z.seats a) 0) ≡ true
  from : (r : ℕ) → x.to ≡ Some r → any_holds (z.seats a).slots r ≡ true
  to : (r : ℕ) → t.to ≡ Some r → any_holds (z.seats a).slots r ≡ true

target_held : (b : Bounds) (d : Agent) (o : Option ℕ) (r : ℕ) → may_target b d o ≡ true → o ≡ Some r → any_holds d.slots r ≡ true
target_held b d None r h e = cc
target_held b d (Some q) r h e = let k : q ≡ r = cc in rw (← k) (and_both (nat_lt q b.rows) (any_holds d.slots q) h).1

exchange : (b : Bounds) (z : World) (a : ℕ) (w : Word) (x t : RowLink) → LawfulStep b z a (LinkCas w x t) → Exchange b z a w x t
exchange b z a w x t l =
    let d = z.seats a in
    let m = may_place b w (λ r. any_holds d.slots r && not (names d.fresh r)) in
    let e = is_empty (slot_of d 0) in
    let k = and_both (m && e && may_target b d x.to && may_target b d t.to) (may_change d (b.limit + 64) x.to t.to) l.fits in
    let i = and_both (m && e && may_target b d x.to) (may_target b d t.to) k.0 in
    let j = and_both (m && e) (may_target b d x.to) i.0 in
    record { empty = (and_both m e j.0).1; from = λ r g. target_held b d x.to r j.1 g; to = λ r g. target_held b d t.to r i.1 g }

first_same : (m : Word → ℕ) (w : Word) (v j : ℕ) → OutPlace m w → write m w v (First j) ≡ m (First j)
first_same m (Root i) v j o = refl
first_same m (Next i) v j o = refl
first_same m (Side i) v j o = refl
first_same m w v j o = absurd o

second_same : (m : Word → ℕ) (w : Word) (v j : ℕ) → OutPlace m w → write m w v (Second j) ≡ m (Second j)
second_same m (Root i) v j o = refl
second_same m (Next i) v j o = refl
second_same m (Side i) v j o = refl
second_same m w v j o = absurd o

aimed_row : (f : ℕ → ℕ) (o : Option ℕ) (i : ℕ) → option_map f o ≡ Some i → (r : ℕ) × (o ≡ Some r) × (f r ≡ i)
aimed_row f None i e = cc
aimed_row f (Some r) i e = (r, refl, cc)

-- a row whose link is exchanged isn't the agent's fresh one
place_unfresh : (b : Bounds) (z : World) (a q : ℕ) (x t : RowLink) → LawfulStep b z a (LinkCas (Next q) x t) → names (z.seats a).fresh q ≡ false
place_unfresh b z a q x t l =
    let k = and_both (nat_lt q b.rows) (any_holds (z.seats a).slots q && not (names (z.seats a).fresh q))
    (cas_place b (z.memory Enrolled) a (Next q) x t (z.seats a) l.fits) in
    not-false (names (z.seats a).fresh q) (and_both (any_holds (z.seats a).slots q) (not (names (z.seats a).fresh q)) k.1).1

side_unfresh : (b : Bounds) (z : World) (a q : ℕ) (x t : RowLink) → LawfulStep b z a (LinkCas (Side q) x t) → names (z.seats a).fresh q ≡ false
side_unfresh b z a q x t l =
    let k = and_both (nat_lt q b.rows && nat_lt 1 b.links) (any_holds (z.seats a).slots q && not (names (z.seats a).fresh q))
    (cas_place b (z.memory Enrolled) a (Side q) x t (z.seats a) l.fits) in
    not-false (names (z.seats a).fresh q) (and_both (any_holds (z.seats a).slots q) (not (names (z.seats a).fresh q)) k.1).1

-- the place of a link that was made names its target
exchanged : (b : Bounds) (z : World) (a : ℕ) (w : Word) (x t : RowLink) (j : ℕ) → LawfulStep b z a (LinkCas w x t)
    → Counted b (step_world z a (LinkCas w x t)) → (z.memory w == link_word x) ≡ true
    → names t.to j ≡ true → names ((step_world z a (LinkCas w x t)).seats a).fresh j ≡ true → names (z.seats a).fresh j ≡ true → ⊥
exchanged b z a (Root i) x t j l c won e k old =
    zero_one (c.fresh_root a i j k) (rw (eq-eqb i i refl, won) (to_row-link t j ∙ ap bit e))
exchanged b z a (Next i) x t j l c won e k old =
    zero_one (c.fresh_links a 0 i j k (λ g. both_ways (names (z.seats a).fresh i) (rw g old) (place_unfresh b z a i x t l)))
    (rw (eq-eqb i i refl, won) (to_row-link t j ∙ ap bit e))
exchanged b z a (Side i) x t j l c won e k old =
    zero_one (c.fresh_links a 1 i j k (λ g. both_ways (names (z.seats a).fresh i) (rw g old) (side_unfresh b z a i x t l)))
    (rw (eq-eqb i i refl, won) (to_row-link t j ∙ ap bit e))
exchanged b z a w x t j l c won e k old = cas_place_out b z a w x t l

-- a row that still is fresh isn't the target
exchange_unfresh : (b : Bounds) (z : World) (p : PresentIds) (h : Heap) (a : ℕ) (w : Word) (x t : RowLink) (y j : ℕ)
    → LawfulStep b z a (LinkCas w x t) → Counted b (step_world z a (LinkCas w x t)) → Shows b z p h → (z.memory w == link_word x) ≡ true
    → names ((step_world z a (LinkCas w x t)).seats y).fresh j ≡ true → option_map p.node t.to ≡ Some (p.node j) → ⊥
exchange_unfresh b z p h a w x t y j l c s won k e =
    let old = fresh_before z a (LinkCas w x t) y j false≢true k in
    let r = aimed_row p.node t.to (p.node j) e in
    let held = (exchange b z a w x t l).to r.0 r.1 in
    let same = s.apart r.0 j (held_out b z a r.0 l.counted held) (l.counted.used_out y j (fresh_uses (z.seats y) j old)) r.2 in
    let target : names t.to j ≡ true = some-names t.to j (r.1 ∙ ap Some same) in
    cases (y == a) refl old k target (rw same at held)
  where
    cases : (u : Bool) → (y == a) ≡ u → names (z.seats y).fresh j ≡ true → names ((step_world z a (LinkCas w x t)).seats y).fresh j ≡ true
        → names t.to j ≡ true → any_holds (z.seats a).slots j ≡ true → ⊥
    cases true g old k target held = let f = eqb-true y a g in exchanged b z a w x t j l c won target (rw f at k) (rw f at old)
    cases false g old k target held =
        both_ways (uses (z.seats a) j) (held_uses (z.seats a) j held) (l.counted.fresh_alone y a j old (λ f. eqb-false y a g (sym f)))

linked_marks : Marks as_linked
linked_marks = record { named = λ n. refl; link = λ n. refl; side = λ n. refl; first = λ n. refl; second = λ n. refl }

pub named_marks : Marks as_named
named_marks = record { named = λ n. refl; link = λ n. refl; side = λ n. refl; first = λ n. refl; second = λ n. refl }

exchange_relinks : (b : Bounds) (z : World) (p : PresentIds) (h : Heap) (a : ℕ) (w : Word) (x t : RowLink) → LawfulStep b z a (LinkCas w x t)
    → Counted b (step_world z a (LinkCas w x t)) → Shows b z p h → (z.memory w == link_word x) ≡ true
    → Relinks b z p h a (LinkCas w x t) t as_linked
exchange_relinks b z p h a w x t l c s won = record {
  lawful = l;
  shows = s;
  marks = linked_marks;
  back = packs b z t l.shape l.counted (λ r e. held_out b z a r l.counted ((exchange b z a w x t l).to r e));
  target = λ r e. holder_knows b z p h a r s (exchange b z a w x t l).empty ((exchange b z a w x t l).to r e);
  makes = λ v r k. (and_both _ _ k).1;
  slots = λ y k j e. ⊎_elim (λ u. rw u.0 u.1) (λ u. u.1) (seat_split (λ d. holds (slot_of d k) j ≡ true) z.seats a y (record_by z a (LinkCas w x t)) e);
  no_take = λ j. false≢true;
  first = λ j. first_same z.memory w _ j (cas_place_out b z a w x t l);
  second = λ j. second_same z.memory w _ j (cas_place_out b z a w x t l);
  owned = λ y j n k e o. absurd (exchange_unfresh b z p h a w x t y j l c s won k e);
}

lost_fits : (b : Bounds) (z : World) (p : PresentIds) (h : Heap) (a : ℕ) (w : Word) (x t : RowLink) (place : Place) → LawfulStep b z a (LinkCas w x t)
    → Shows b z p h → (z.memory w == link_word x) ≡ false
    → shown h place ≡ Some (node_link p (link_of (z.memory w))) → Fits a (Miss place (node_link p x) (node_link p (link_of (z.memory w)))) h
lost_fits b z p h a w x t place l s lost e =
    (e, differs b z p h w x l.shape l.counted (cas_place_out b z a w x t l) s (λ r g. held_out b z a r l.counted ((exchange b z a w x t l).from r g)) lost)

won_shown : (b : Bounds) (z : World) (p : PresentIds) (h : Heap) (a : ℕ) (w : Word) (x t : RowLink) (place : Place) → LawfulStep b z a (LinkCas w x t)
    → (z.memory w == link_word x) ≡ true
    → shown h place ≡ Some (node_link p (link_of (z.memory w))) → shown h place ≡ Some (node_link p x)
won_shown b z p h a w x t place l won e =
    e ∙ ap (λ v. Some (node_link p (link_of v))) (eqb-true (z.memory w) (link_word x) won)
    ∙ ap (λ (k : RowLink). Some (node_link p k)) (packs b z x l.shape l.counted (λ r g. held_out b z a r l.counted ((exchange b z a w x t l).from r g)))

-- the step's act on a place, and the heap after it
exchange_at : (b : Bounds) (z : World) (p : PresentIds) (h : Heap) (a : ℕ) (w : Word) (x t : RowLink) (place : Place)
    → LawfulStep b z a (LinkCas w x t) → Shows b z p h → shown h place ≡ Some (node_link p (link_of (z.memory w)))
    → ((z.memory w == link_word x) ≡ true → Shows b (step_world z a (LinkCas w x t)) p (heap_after a (Move place (node_link p x) (node_link p t)) h))
    → Fits a (exchange_act p (z.memory w) x t place) h × Shows b (step_world z a (LinkCas w x t)) p (heap_after a (exchange_act p (z.memory w) x t place) h)
exchange_at b z p h a w x t place l s e move = cases (z.memory w == link_word x) refl
  where
    made : Act
    made = Move place (node_link p x) (node_link p t)

    missed : Act
    missed = Miss place (node_link p x) (node_link p (link_of (z.memory w)))

    cases : (u : Bool) → (z.memory w == link_word x) ≡ u → Fits a (if u then made else missed) h
        × Shows b (step_world z a (LinkCas w x t)) p (heap_after a (if u then made else missed) h)
    cases true g = (
      (
        won_shown b z p h a w x t place l g e,
        is_target a p h t.to (λ r k. holder_knows b z p h a r s (exchange b z a w x t l).empty ((exchange b z a w x t l).to r k)),
      ),
      move g,
    )
    cases false g = (lost_fits b z p h a w x t place l s g e, still_shows b z p h a (LinkCas w x t) l (rw g refl) s)

pub exchange_step : (b : Bounds) (z : World) (p : PresentIds) (h : Heap) (a : ℕ) (w : Word) (x t : RowLink) (want : Option RowLink)
    → LawfulStep b z a (LinkCas w x t) → Counted b (step_world z a (LinkCas w x t)) → Shows b z p h
    → Fitting a (act_of p (z.seats a) (z.memory w) (LinkCas w x t) want) h
    × Shows b (step_world z a (LinkCas w x t)) p (heap_then a (act_of p (z.seats a) (z.memory w) (LinkCas w x t) want) h)
exchange_step b z p h a (Root i) x t want l c s =
    let below = ltb-true i b.roots (cas_place b (z.memory Enrolled) a (Root i) x t (z.seats a) l.fits) in
    exchange_at b z p h a (Root i) x t (RootPlace i) l s (s.roots i below)
    (λ won. root_shows b z p h a (LinkCas (Root i) x t) t as_linked i (exchange_relinks b z p h a (Root i) x t l c s won) below (λ j. rw won refl) (λ j. refl) (λ j. refl))
exchange_step b z p h a (Next q) x t want l c s =
    let k = (and_both (nat_lt q b.rows) (any_holds (z.seats a).slots q && not (names (z.seats a).fresh q))
    (cas_place b (z.memory Enrolled) a (Next q) x t (z.seats a) l.fits)).1 in
    let u = held_uses (z.seats a) q (and_both (any_holds (z.seats a).slots q) (not (names (z.seats a).fresh q)) k).0 in
    exchange_at b z p h a (Next q) x t (NodePlace (p.node q)) l s (next_shown b z p h a q l.counted l.doomed s u)
    (λ won. next_shows b z p h a (LinkCas (Next q) x t) t as_linked q (exchange_relinks b z p h a (Next q) x t l c s won) (l.counted.used_out a q u)
    (λ j. rw won refl) (λ j. refl) (λ j. refl))
exchange_step b z p h a (Side q) x t want l c s =
    let f = cas_place b (z.memory Enrolled) a (Side q) x t (z.seats a) l.fits in
    let g = and_both (nat_lt q b.rows && nat_lt 1 b.links) (any_holds (z.seats a).slots q && not (names (z.seats a).fresh q)) f in
    let k = g.1 in
    let two = (and_both (nat_lt q b.rows) (nat_lt 1 b.links) g.0).1 in
    let u = held_uses (z.seats a) q (and_both (any_holds (z.seats a).slots q) (not (names (z.seats a).fresh q)) k).0 in
    exchange_at b z p h a (Side q) x t (SidePlace (p.node q)) l s (side_shown b z p h a q l.counted l.doomed s u two)
    (λ won. side_shows b z p h a (LinkCas (Side q) x t) t as_linked q (exchange_relinks b z p h a (Side q) x t l c s won) (l.counted.used_out a q u)
    (λ j. rw won refl) (λ j. refl) (λ j. refl))
exchange_step b z p h a w x t want l c s = absurd (cas_place_out b z a w x t l)

pub take_step : (b : Bounds) (z : World) (p : PresentIds) (h : Heap) (a q : ℕ) → LawfulStep b z a (GateTake q) → Shows b z p h → (t : Bool)
    → is_taken (z.seats a) (z.memory (Gate q)) ≡ t
    → Fitting a (if t then Some Give else None) h × Shows b (step_world z a (GateTake q)) (if t then with_taken q p else p)
    (heap_then a (if t then Some Give else None) h)
take_step b z p h a q l s true e = (tt, take_shows b z p h a q l e s)
take_step b z p h a q l s false e = (tt, still_shows b z p h a (GateTake q) l (rw e refl) s)
