-- A counter word that has changed was that of a row that was out.
use Rattle.std.proofs.Common.{Bool, Option, Some, None, ap, false, inl, inr, ne_eqb, refl, subst, suc, sym, true, zero, ℕ, ⊎_elim, ◌≡◌, ◌⊎◌}
use Rattle.std.proofs.lemmas.Bool.{false≢true, or_right}
use Rattle.std.specs.Prelude.{cond, nat_lt, not, ◌&&◌, ◌==◌, ◌||◌}
use native.Mathlib.Decide.{ℕ_discrete}
use mathlib.Core.Logic.{dite}
use Rattle.orc_core.proofs.Within.{and_both}
use Rattle.orc_core.specs.RecordParts.{any_holds, doom_cut, holds, is_due, names, saw, scan_empty, scans, slot_of}
use Rattle.orc_core.specs.declared.ops.Op.{Op}
use Rattle.orc_core.specs.declared.ops.Op.TheVariants.{Arm, Clear, CounterLoad, Dec, Enroll, Fill, Free, GateLook, GateTake, Hand, Inc, LinkCas, LinkLoad, LinkStore, Publish, Read, SetRetired, SlotLook, TakeIn, Unretire, MoveOn, HandoverLook, DecHeld}
use Rattle.orc_core.specs.declared.records.Agent.{Agent}
use Rattle.orc_core.specs.declared.records.Doom.{Doom}
use Rattle.orc_core.specs.declared.records.Reading.{Reading}
use Rattle.orc_machine_board.proofs.Holds.{one_of}
use Rattle.orc_machine_board.proofs.Licences.{has_either}
use Rattle.orc_sound.proofs.Bridge.{same_word-true}
use Rattle.orc_sound.proofs.Facts.{LawfulStep, out}
use Rattle.orc_sound.proofs.Sources.{any_holds_at}
use Rattle.orc_sound.proofs.World.{World, same_word, step_world, write}
use Rattle.orc_sound.specs.Doomed.{dooms}
use Rattle.orc_sound.specs.Linked.{uses}
use Rattle.orc_words.specs.Bounds.{Bounds}
use Rattle.orc_words.specs.declared.place.Word.{Word}
use Rattle.orc_words.specs.declared.place.Word.TheVariants.{Counter, First, Gate, Next, Root, Second, Side}

-- the word of a row's counter stays, or the row is out
abbrev pub CounterStep : (Word → ℕ) → (Word → ℕ) → ℕ → Type 0
CounterStep m n r = (n (Counter r) ≡ m (Counter r)) ⊎ (out (m (Gate r)) ≡ 1)

-- a word that is written as it was
pub write_same : (m : Word → ℕ) (w x : Word) → write m w (m w) x ≡ m x
write_same m w x = cases (same_word x w) refl
  where
    cases : (t : Bool) → same_word x w ≡ t → cond t (m w) (m x) ≡ m x
    cases true e = ap m (sym (same_word-true x w e))
    cases false e = refl

-- another word than the counter's
write_value : (m : Word → ℕ) (first : Bool) (q v r : ℕ) → write m (cond first (First q) (Second q)) v (Counter r) ≡ m (Counter r)
write_value m true q v r = refl
write_value m false q v r = refl

-- the counter of another row, or of one of which this holds
write_counter : (m : Word → ℕ) (q v r : ℕ) (P : ℕ → Type 0) → P q → (write m (Counter q) v (Counter r) ≡ m (Counter r)) ⊎ P r
write_counter m q v r P p = dite (ℕ_discrete r q)
    (λ same. inr (subst P (sym same) p))
    (λ other. inl (ap (λ (t : Bool). cond t v (m (Counter r))) (ne_eqb r q other)))

due_saw : (o : Option Reading) (r q : ℕ) → is_due o r q ≡ true → saw o r ≡ true
due_saw None r q h = absurd (false≢true h)
due_saw (Some s) r q h = (and_both (s.row == r) (s.number == q) h).0

cut_dooms : (links : ℕ) (o : Option Doom) (r : ℕ) → doom_cut links o r ≡ true → dooms o r ≡ true
cut_dooms links None r h = absurd (false≢true h)
cut_dooms links (Some x) r h = (and_both (x.row == r) (x.cuts == links) (and_both ((x.row == r) && (x.cuts == links)) (not x.bare) h).0).0

-- what a record has pending, due, fresh or held it uses
module _ (d : Agent) (r : ℕ) where
  uses_held : any_holds d.slots r ≡ true → uses d r ≡ true
  uses_held h = has_either _ (saw d.due r) (has_either _ (names d.dec r) (has_either _ (names d.inc r) (has_either (any_holds d.slots r) (names d.fresh r) h)))

  pub uses_fresh : names d.fresh r ≡ true → uses d r ≡ true
  uses_fresh h = has_either _ (saw d.due r) (has_either _ (names d.dec r) (has_either _ (names d.inc r) (or_right (any_holds d.slots r) (names d.fresh r) h)))

  uses_inc : names d.inc r ≡ true → uses d r ≡ true
  uses_inc h = has_either _ (saw d.due r) (has_either _ (names d.dec r) (or_right (any_holds d.slots r || names d.fresh r) (names d.inc r) h))

  uses_dec : names d.dec r ≡ true → uses d r ≡ true
  uses_dec h = has_either _ (saw d.due r) (or_right (any_holds d.slots r || names d.fresh r || names d.inc r) (names d.dec r) h)

  uses_due : saw d.due r ≡ true → uses d r ≡ true
  uses_due h = or_right (any_holds d.slots r || names d.fresh r || names d.inc r || names d.dec r) (saw d.due r) h

-- the word of a row's counter stays, or the agent uses the row, or is to free it
abbrev pub CounterSource : Bounds → World → ℕ → Op → ℕ → Type 0
CounterSource b z a op r = ((step_world z a op).memory (Counter r) ≡ z.memory (Counter r)) ⊎ (uses (z.seats a) r ≡ true) ⊎ (dooms (z.seats a).doom r ≡ true)

pub counter_source : (b : Bounds) (z : World) (a : ℕ) (op : Op) (r : ℕ) → LawfulStep b z a op → CounterSource b z a op r
counter_source b z a Enroll r l = inl refl
counter_source b z a (GateLook q) r l = inl refl
counter_source b z a (GateTake q) r l = inl refl
counter_source b z a (Fill q which v) r l = inl (write_value z.memory (which == 0) q v r)
counter_source b z a (Read q which) r l = inl (write_same z.memory (cond (which == 0) (First q) (Second q)) (Counter r))
counter_source b z a (LinkLoad p slot) r l = inl (write_same z.memory p (Counter r))
counter_source b z a (Publish j q) r l = inl refl
counter_source b z a (Clear j) r l = inl refl
counter_source b z a (Arm q) r l = inl refl
counter_source b z a (LinkCas (Root i) f t) r l = inl refl
counter_source b z a (LinkCas (Next q) f t) r l = inl refl
counter_source b z a (LinkCas (Side q) f t) r l = inl refl
counter_source b z a (LinkCas p f t) r l = absurd (false≢true l.fits)
counter_source b z a (LinkStore q k zero) r l = inl refl
counter_source b z a (LinkStore q k (suc n)) r l = inl refl
counter_source b z a (Inc q) r l =
    let d = z.seats a in
    write_counter z.memory q _ r (λ y. (uses d y ≡ true) ⊎ (dooms d.doom y ≡ true)) (inl (uses_inc d q (and_both (nat_lt q b.rows) (names d.inc q) l.fits).1))
counter_source b z a (Dec q) r l =
    let d = z.seats a in
    let two = and_both (nat_lt q b.rows && names d.dec q) (holds (slot_of d 0) q) l.fits in
    write_counter z.memory q _ r (λ y. (uses d y ≡ true) ⊎ (dooms d.doom y ≡ true)) (inl (uses_dec d q (and_both (nat_lt q b.rows) (names d.dec q) two.0).1))
counter_source b z a (SetRetired q s) r l =
    let d = z.seats a in
    let h = (and_both (nat_lt q b.rows && nat_lt s 1099511627776) (is_due d.due q s || names d.fresh q) l.fits).1 in
    write_counter z.memory q _ r (λ y. (uses d y ≡ true) ⊎ (dooms d.doom y ≡ true))
    (inl (one_of (is_due d.due q s) (names d.fresh q) (uses d q ≡ true) h (λ e. uses_due d q (due_saw d.due q s e)) (uses_fresh d q)))
counter_source b z a (CounterLoad q how) r l = inl (write_same z.memory (Counter q) (Counter r))
counter_source b z a (Unretire q) r l =
    let d = z.seats a in
    let scanned = scans d.scan q && not (scan_empty d.scan) in
    let h = (and_both (nat_lt q b.rows) ((scanned && holds (slot_of d 0) q) || doom_cut b.links d.doom q) l.fits).1 in
    write_counter z.memory q _ r (λ y. (uses d y ≡ true) ⊎ (dooms d.doom y ≡ true))
    (one_of (scanned && holds (slot_of d 0) q) (doom_cut b.links d.doom q) ((uses d q ≡ true) ⊎ (dooms d.doom q ≡ true)) h
    (λ e. inl (uses_held d q (any_holds_at d.slots 0 q (and_both scanned (holds (slot_of d 0) q) e).1)))
    (λ e. inr (cut_dooms b.links d.doom q e)))
counter_source b z a (SlotLook j) r l = inl refl
counter_source b z a (Hand j) r l = inl refl
counter_source b z a (TakeIn j) r l = inl refl
counter_source b z a (Free q) r l = inl refl
counter_source b z a (MoveOn j q) r l = inl refl
counter_source b z a (HandoverLook j) r l = inl refl
counter_source b z a (DecHeld q) r l =
    let d = z.seats a in
    let two = and_both (nat_lt q b.rows && names d.dec q) (any_holds d.slots q) l.fits in
    write_counter z.memory q _ r (λ y. (uses d y ≡ true) ⊎ (dooms d.doom y ≡ true)) (inl (uses_dec d q (and_both (nat_lt q b.rows) (names d.dec q) two.0).1))

pub counter_change : (b : Bounds) (z : World) (a : ℕ) (op : Op) (r : ℕ) → LawfulStep b z a op → CounterStep z.memory (step_world z a op).memory r
counter_change b z a op r l = ⊎_elim (λ same. inl same)
    (λ other. inr (⊎_elim (λ used. l.counted.used_out a r used) (λ doomed. (l.doomed.gone a r doomed).is_out) other))
    (counter_source b z a op r l)
