-- A fresh row has no bit, is used by its agent alone, and is named by no link word but its own.
use Rattle.std.proofs.Common.{Bool, ap, arith, cond, false, inl, inr, refl, sym, true, ℕ, ⊎_elim, ◌+◌, ◌∙◌, ◌≡◌, ◌≢◌, ◌⊎◌, zero, suc}
use Rattle.std.proofs.lemmas.Bool.{eqb-false, eqb-true, false≢true}
use Rattle.std.specs.Prelude.{None, Option, Some, is_none, nat_lt, not, ◌&&◌, ◌==◌, ◌||◌}
use Rattle.orc_words.specs.Bounds.{Bounds}
use Rattle.orc_words.specs.Packed.{bit, link_word, retired_bit}
use Rattle.orc_words.specs.declared.packed.RowLink.{RowLink}
use Rattle.orc_words.specs.declared.place.Word.{Word}
use Rattle.orc_words.specs.declared.place.Word.TheVariants.{Counter, Enrolled, Gate, Next, Root, Side}
use Rattle.orc_core.proofs.Within.{and_both}
use Rattle.orc_words.specs.Operations.{word_after}
use Rattle.orc_core.specs.Actions.{action_of, clear_word}
use Rattle.orc_core.specs.After.{after}
use Rattle.orc_core.specs.Allowed.{fits, may_change, may_place, may_target}
use Rattle.orc_core.specs.RecordParts.{any_holds, doom_at, is_empty, names, same_target, slot_of}
use Rattle.orc_core.specs.declared.ops.Op.{Op}
use Rattle.orc_core.specs.declared.ops.Op.TheVariants.{Arm, GateTake, LinkCas, LinkLoad, LinkStore, SetRetired}
use Rattle.orc_core.specs.declared.records.Agent.{Agent}
use Rattle.orc_sound.proofs.Balances.{same_names, to_row-link}
use Rattle.orc_sound.proofs.Bits.{bit_before, raises}
use Rattle.orc_sound.proofs.Facts.{Counted, LawfulStep, out, to_row}
use Rattle.orc_sound.proofs.Outs.{arm_retired, load_place, null_row, place_used, putter_uses, raiser_uses, store_cases, takes_free, uncut_dooms, uses_before, zero_one}
use Rattle.orc_sound.proofs.Seats.{both_ways, not_true, seat_split}
use Rattle.orc_sound.proofs.Sources.{fresh_source, links_source, one-true, puts, root_source, takes, same_link}
use Rattle.orc_sound.proofs.Uses.{NewUse, fresh_uses}
use Rattle.orc_sound.proofs.World.{World, read_by, record_by, step_world, write, same_word}
use Rattle.orc_sound.specs.Linked.{uses}
use Rattle.orc_words.specs.Places.{link_at}
use Rattle.orc_sound.proofs.Bridge.{same_word-true}

-- a row that was free when it was taken isn't used, retired or linked_in
taken_unused : (b : Bounds) (z : World) (a : ℕ) (op : Op) (x r : ℕ) → Counted b z → takes op (z.seats a) (read_by z a op) r ≡ true
    → uses (z.seats x) r ≡ true → ⊥
taken_unused b z a op x r s h u = zero_one (takes_free op (z.seats a) z.memory a r h) (s.used_out x r u)

-- who has the row fresh after a step had it before, or took it
fresh_before : (z : World) (a : ℕ) (op : Op) (r : ℕ) → names (record_by z a op).fresh r ≡ true → (names (z.seats a).fresh r ≡ true)
    ⊎ (takes op (z.seats a) (read_by z a op) r ≡ true)
fresh_before z a op r h = fresh_source op (z.seats a) (read_by z a op) r h

-- who sets the bit of a row has it fresh no longer
raised_fresh : (op : Op) (d : Agent) (v r : ℕ) → raises op v r ≡ true → names (after op d v).fresh r ≡ true → ⊥
raised_fresh (SetRetired q n) d v r h k = tried d.fresh q r (v == clear_word n) (and_both _ _ h).1 (eqb-true q r (and_both _ _ h).0) k
  where
    gone : (o : Option ℕ) (r : ℕ) (t : Bool) → names o r ≡ t → names (cond t None o) r ≡ true → ⊥
    gone o r true e h = false≢true h
    gone o r false e h = false≢true (sym e ∙ h)

    tried : (o : Option ℕ) (q r : ℕ) (t : Bool) → t ≡ true → q ≡ r → names (cond t (cond (names o q) None o) o) r ≡ true → ⊥
    tried o q r true e f h = gone o r (names o r) refl (rw f at h)
    tried o q r false e f h = false≢true e
raised_fresh op d v r h k = false≢true h

old_bit_clear : (b : Bounds) (z : World) (a : ℕ) (op : Op) (x r : ℕ) → LawfulStep b z a op → names ((step_world z a op).seats x).fresh r ≡ true
    → retired_bit (z.memory (Counter r)) ≡ 1 → ⊥
old_bit_clear b z a op x r p h k =
    ⊎_elim
    (λ s. ⊎_elim (λ old. zero_one (p.counted.fresh_bit a r old) k)
    (λ got. zero_one (takes_free op (z.seats a) z.memory a r got) (p.counted.bit_out r k)) (fresh_before z a op r s.1))
    (λ s. zero_one (p.counted.fresh_bit x r s.1) k)
    (seat_split (λ d. names d.fresh r ≡ true) z.seats a x (record_by z a op) h)

new_bit_clear : (b : Bounds) (z : World) (a : ℕ) (op : Op) (x r : ℕ) → LawfulStep b z a op → names ((step_world z a op).seats x).fresh r ≡ true
    → raises op (read_by z a op) r ≡ true → ⊥
new_bit_clear b z a op x r p h k =
    ⊎_elim
    (λ s. raised_fresh op (z.seats a) (read_by z a op) r k s.1)
    (λ s. both_ways (uses (z.seats a) r) (raiser_uses b z a op r p k) (p.counted.fresh_alone x a r s.1 (λ e. s.0 (sym e))))
    (seat_split (λ d. names d.fresh r ≡ true) z.seats a x (record_by z a op) h)

pub small_bit : (w : ℕ) → (retired_bit w ≡ 1 → ⊥) → retired_bit w ≡ 0
small_bit w h = cases (retired_bit w == 1) refl
  where
    cases : (t : Bool) → (retired_bit w == 1) ≡ t → retired_bit w ≡ 0
    cases true e = absurd (h (eqb-true (retired_bit w) 1 e))
    cases false e = let k = eqb-false (retired_bit w) 1 e in let n : retired_bit w ≢ 1 = k in omega arith

pub fresh_bit_step : (b : Bounds) (z : World) (a : ℕ) (op : Op) → LawfulStep b z a op → (x r : ℕ) → names ((step_world z a op).seats x).fresh r ≡ true
    → retired_bit ((step_world z a op).memory (Counter r)) ≡ 0
fresh_bit_step b z a op p x r h =
    small_bit ((step_world z a op).memory (Counter r))
    (λ k. ⊎_elim (λ old. old_bit_clear b z a op x r p h old) (λ new. new_bit_clear b z a op x r p h new) (bit_before b z a op r p k))

-- a link to another agent's fresh row can be read only at that row, which no other agent uses
row_alone : (b : Bounds) (z : World) (a k j x r : ℕ) → Counted b z
    → may_place b (link_at k j) (λ j. any_holds (z.seats a).slots j || names (z.seats a).fresh j) ≡ true → to_row (z.memory (link_at k j)) r ≡ 1
    → names (z.seats x).fresh r ≡ true → a ≢ x → ⊥
row_alone b z a k j x r s m h f n = cases (j == r) refl
  where
    cases : (t : Bool) → (j == r) ≡ t → ⊥
    cases true e = both_ways (uses (z.seats a) r) (rw (← eqb-true j r e) (place_used b k j (z.seats a) m)) (s.fresh_alone x a r f n)
    cases false e = zero_one (s.fresh_links x k j r f (eqb-false j r e)) h

place_alone : (b : Bounds) (z : World) (a : ℕ) (w : Word) (x r : ℕ) → Counted b z
    → may_place b w (λ j. any_holds (z.seats a).slots j || names (z.seats a).fresh j) ≡ true → to_row (z.memory w) r ≡ 1
    → names (z.seats x).fresh r ≡ true → a ≢ x → ⊥
place_alone b z a (Root i) x r s m h f n = zero_one (s.fresh_root x i r f) h
place_alone b z a (Next j) x r s m h f n = row_alone b z a 0 j x r s m h f n
place_alone b z a (Side j) x r s m h f n = row_alone b z a 1 j x r s m h f n
place_alone b z a w x r s m h f n = false≢true m

store_alone : (b : Bounds) (z : World) (a q nr : ℕ) (l : RowLink) (x r : ℕ) → LawfulStep b z a (LinkStore q l nr) → to_row (z.memory (link_at nr q)) r ≡ 1
    → names (z.seats x).fresh r ≡ true → a ≢ x → ⊥
store_alone b z a q nr l x r p h f n = cases (q == r) refl
  where
    cases : (t : Bool) → (q == r) ≡ t → ⊥
    cases true e =
        let k = eqb-true q r e in
        ⊎_elim
        (λ mine. both_ways (uses (z.seats a) r) (rw (← k) (fresh_uses (z.seats a) q mine)) (p.counted.fresh_alone x a r f n))
        (λ cut. both_ways (uses (z.seats x) r) (fresh_uses (z.seats x) r f) (rw (← k) ((p.doomed.gone a q (uncut_dooms _ q nr cut)).unused x)))
        (store_cases b (z.memory Enrolled) a q nr l (z.seats a) p.fits)
    cases false e = zero_one (p.counted.fresh_links x nr q r f (eqb-false q r e)) h

-- no other agent comes to use a fresh row
new_use_alone : (b : Bounds) (z : World) (a : ℕ) (op : Op) (x r : ℕ) → LawfulStep b z a op → NewUse op (z.seats a) (read_by z a op) r
    → names (z.seats x).fresh r ≡ true → a ≢ x → ⊥
new_use_alone b z a (LinkLoad w k) x r p h f n = place_alone b z a w x r p.counted (load_place b (z.memory Enrolled) a w k (z.seats a) p.fits) h f n
new_use_alone b z a (LinkStore q l nr) x r p h f n = store_alone b z a q nr l x r p h f n
new_use_alone b z a (Arm q) x r p h f n = zero_one (p.counted.fresh_bit x r f) (rw h.0 (arm_retired b z a q p h.1))
new_use_alone b z a (GateTake q) x r p h f n = taken_unused b z a (GateTake q) x r p.counted h (fresh_uses (z.seats x) r f)
new_use_alone b z a op x r p h f n = h

pub fresh_alone_step : (b : Bounds) (z : World) (a : ℕ) (op : Op) → LawfulStep b z a op → (x y r : ℕ)
    → names ((step_world z a op).seats x).fresh r ≡ true → y ≢ x → uses ((step_world z a op).seats y) r ≡ false
fresh_alone_step b z a op p x y r h n =
    not_true (uses ((step_world z a op).seats y) r)
    (λ u. ⊎_elim
    (λ s. ⊎_elim
    (λ t. n (t.0 ∙ sym s.0))
    (λ t. ⊎_elim
    (λ old. both_ways (uses (z.seats y) r) t.1 (p.counted.fresh_alone a y r old t.0))
    (λ got. taken_unused b z a op y r p.counted got t.1)
    (fresh_before z a op r s.1))
    (seat_split (λ d. uses d r ≡ true) z.seats a y (record_by z a op) u))
    (λ s. ⊎_elim
    (λ t. ⊎_elim
    (λ old. both_ways (uses (z.seats a) r) old (p.counted.fresh_alone x a r s.1 (λ e. s.0 (sym e))))
    (λ new. new_use_alone b z a op x r p new s.1 (λ e. s.0 (sym e)))
    (uses_before b z a op r p t.1))
    (λ t. both_ways (uses (z.seats y) r) t.1 (p.counted.fresh_alone x y r s.1 n))
    (seat_split (λ d. uses d r ≡ true) z.seats a y (record_by z a op) u))
    (seat_split (λ d. names d.fresh r ≡ true) z.seats a x (record_by z a op) h))

-- an agent whose compare_exchange links its fresh row has it fresh no longer
cas_fresh : (v w : ℕ) (x t : RowLink) (o : Option ℕ) (r : ℕ) (e s f u : Bool) → (e ≡ true → w ≡ v) → (s ≡ true → v ≡ link_word x)
    → (f ≡ true → names x.to r ≡ names t.to r) → (u ≡ false → names o r ≡ true → names t.to r ≡ true → ⊥)
    → names (cond s (cond f o (cond u None o)) o) r ≡ true → to_row (cond e (cond s (link_word t) v) w) r ≡ 1 → to_row w r ≡ 1
cas_fresh v w x t o r false s f u a b c d h k = k
cas_fresh v w x t o r true false f u a b c d h k = rw (a refl) k
cas_fresh v w x t o r true true true u a b c d h k = rw (a refl, b refl) (omega (arith, to_row-link x r, to_row-link t r, ap bit (c refl)))
cas_fresh v w x t o r true true false true a b c d h k = absurd (false≢true h)
cas_fresh v w x t o r true true false false a b c d h k = absurd (d refl h (one-true (names t.to r) (rw to_row-link at k)))

differ : (o t : Option ℕ) (r : ℕ) → same_target o t ≡ false → names o r ≡ true → names t r ≡ true → ⊥
differ None t r h k l = false≢true k
differ (Some x) None r h k l = false≢true l
differ (Some x) (Some y) r h k l = let e = eqb-true x r k in let f = eqb-true y r l in eqb-false x y h (e ∙ sym f)

own_root : (b : Bounds) (e a : ℕ) (op : Op) (d : Agent) (m : Word → ℕ) (i r : ℕ) → fits b e a op d ≡ true
    → names (after op d (m (action_of a op d).word)).fresh r ≡ true
    → to_row (write m (action_of a op d).word (word_after (action_of a op d).operation (m (action_of a op d).word)) (Root i)) r ≡ 1 → to_row (m (Root i)) r ≡ 1
own_root b e a (LinkCas (Root j) x t) d m i r f h k =
    cas_fresh (m (Root j)) (m (Root i)) x t d.fresh r (i == j) (m (Root j) == link_word x) (same_target x.to t.to) (same_target d.fresh t.to)
    (λ q. ap (λ n. m (Root n)) (eqb-true i j q)) (eqb-true (m (Root j)) (link_word x)) (same_names x.to t.to r) (differ d.fresh t.to r) h k
own_root b e a (LinkCas (Next j) x t) d m i r f h k = k
own_root b e a (LinkCas (Side j) x t) d m i r f h k = k
own_root b e a (LinkCas w x t) d m i r f h k = grind arith
own_root b e a (LinkStore q l zero) d m i r f h k = k
own_root b e a (LinkStore q l (suc n)) d m i r f h k = k
own_root b e a op d m i r f h k = ⊎_elim (λ old. old) (λ new. absurd (false≢true new)) (root_source b e a op d m i r f k)

fresh_or_null : (n y e f t c u s k : Bool) → (n && y && e && ((f && t && c) || (u && s && k))) ≡ true → (f ≡ true) ⊎ (s ≡ true)
fresh_or_null n y e true t c u s k h = inl refl
fresh_or_null n y e false t c u s k h = inr (and_both u s (and_both (u && s) k (and_both (n && y && e) (u && s && k) h).1).0).1

pub no_target : (o : Option ℕ) (r : ℕ) → is_none o ≡ true → names o r ≡ true → ⊥
no_target None r h k = false≢true k
no_target (Some x) r h k = false≢true h

pub two_names : (o : Option ℕ) (q r : ℕ) → names o q ≡ true → names o r ≡ true → q ≡ r
two_names None q r h k = absurd (false≢true h)
two_names (Some x) q r h k = sym (eqb-true x q h) ∙ eqb-true x r k

-- the row that is linked_in to the agent's fresh row by a store is that row
own_store : (b : Bounds) (e a q nr : ℕ) (l : RowLink) (d : Agent) (r : ℕ) → fits b e a (LinkStore q l nr) d ≡ true → names d.fresh r ≡ true
    → names l.to r ≡ true → q ≡ r
own_store b e a q nr l d r f h k =
    ⊎_elim
    (λ mine. two_names d.fresh q r mine h)
    (λ null. absurd (no_target l.to r null k))
    (fresh_or_null (nat_lt q b.rows) (nat_lt nr b.links) (is_empty (slot_of d 0)) (names d.fresh q) (may_target b d l.to) (may_change d (b.limit + 64) None l.to)
    (doom_at d.doom q nr) (is_none l.to) (not l.mark) f)

own_link : (b : Bounds) (e a : ℕ) (op : Op) (d : Agent) (m : Word → ℕ) (n i r : ℕ) → fits b e a op d ≡ true
    → names (after op d (m (action_of a op d).word)).fresh r ≡ true
    → to_row (write m (action_of a op d).word (word_after (action_of a op d).operation (m (action_of a op d).word)) (link_at n i)) r ≡ 1
    → (to_row (m (link_at n i)) r ≡ 1) ⊎ (i ≡ r)
own_link b e a (LinkCas w x t) d m n i r f h k =
    inl (cas_fresh (m w) (m (link_at n i)) x t d.fresh r (same_word (link_at n i) w) (m w == link_word x) (same_target x.to t.to)
    (same_target d.fresh t.to) (λ q. ap m (same_word-true (link_at n i) w q)) (eqb-true (m w) (link_word x)) (same_names x.to t.to r)
    (differ d.fresh t.to r) h k)
own_link b e a (LinkStore q l nr) d m n i r f h k =
    ⊎_elim (λ old. inl old) (λ new. inr (same_link n i nr q (and_both _ _ new).0 ∙ own_store b e a q nr l d r f h (and_both _ _ new).1))
    (links_source b e a (LinkStore q l nr) d m n i r f k)
own_link b e a op d m n i r f h k = ⊎_elim (λ old. inl old) (λ new. absurd (false≢true new)) (links_source b e a op d m n i r f k)

pub not_one : (b : Bool) → (bit b ≡ 1 → ⊥) → bit b ≡ 0
not_one true h = absurd (h refl)
not_one false h = refl

-- a link to another agent's fresh row isn't made
put_alone : (b : Bounds) (z : World) (a : ℕ) (op : Op) (w : Word) (x r : ℕ) → LawfulStep b z a op → puts op w r ≡ true
    → names (z.seats x).fresh r ≡ true → x ≢ a → ⊥
put_alone b z a op w x r p h f n = both_ways (uses (z.seats a) r) (putter_uses b z a op w r p h) (p.counted.fresh_alone x a r f (λ e. n (sym e)))

pub fresh_root_step : (b : Bounds) (z : World) (a : ℕ) (op : Op) → LawfulStep b z a op → (x i r : ℕ)
    → names ((step_world z a op).seats x).fresh r ≡ true → to_row ((step_world z a op).memory (Root i)) r ≡ 0
fresh_root_step b z a op p x i r h =
    not_one _
    (λ k. ⊎_elim
    (λ s. let was = own_root b (z.memory Enrolled) a op (z.seats a) z.memory i r p.fits s.1 k in
    ⊎_elim (λ old. zero_one (p.counted.fresh_root a i r old) was)
    (λ got. zero_one (takes_free op (z.seats a) z.memory a r got) (p.counted.roots_out i r was)) (fresh_before z a op r s.1))
    (λ s. ⊎_elim (λ old. zero_one (p.counted.fresh_root x i r s.1) old) (λ new. put_alone b z a op (Root i) x r p new s.1 s.0)
    (root_source b (z.memory Enrolled) a op (z.seats a) z.memory i r p.fits k))
    (seat_split (λ d. names d.fresh r ≡ true) z.seats a x (record_by z a op) h))

-- no link word names a row that is free
pub free_unnamed : (b : Bounds) (z : World) (k j r : ℕ) → Counted b z → out (z.memory (Gate r)) ≡ 0 → to_row (z.memory (link_at k j)) r ≡ 1 → ⊥
free_unnamed b z k j r s f h = cases (out (z.memory (Gate j)) == 1) refl
  where
    cases : (t : Bool) → (out (z.memory (Gate j)) == 1) ≡ t → ⊥
    cases true e = zero_one f (s.links_out k j r (eqb-true (out (z.memory (Gate j))) 1 e) h)
    cases false e = let n : out (z.memory (Gate j)) ≢ 1 = eqb-false (out (z.memory (Gate j))) 1 e in zero_one (null_row _ r (s.free_null k j (omega arith))) h

pub fresh_links_step : (b : Bounds) (z : World) (a : ℕ) (op : Op) → LawfulStep b z a op → (x i j r : ℕ)
    → names ((step_world z a op).seats x).fresh r ≡ true → j ≢ r → to_row ((step_world z a op).memory (link_at i j)) r ≡ 0
fresh_links_step b z a op p x i j r h n =
    not_one _
    (λ k. ⊎_elim
    (λ s. ⊎_elim
    (λ was. ⊎_elim (λ old. zero_one (p.counted.fresh_links a i j r old n) was)
    (λ got. free_unnamed b z i j r p.counted (takes_free op (z.seats a) z.memory a r got) was) (fresh_before z a op r s.1))
    n
    (own_link b (z.memory Enrolled) a op (z.seats a) z.memory i j r p.fits s.1 k))
    (λ s. ⊎_elim (λ old. zero_one (p.counted.fresh_links x i j r s.1 n) old) (λ new. put_alone b z a op (link_at i j) x r p new s.1 s.0)
    (links_source b (z.memory Enrolled) a op (z.seats a) z.memory i j r p.fits k))
    (seat_split (λ d. names d.fresh r ≡ true) z.seats a x (record_by z a op) h))
