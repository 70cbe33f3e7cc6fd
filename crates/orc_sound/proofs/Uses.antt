-- Where a new use of a row comes from.
use Rattle.std.proofs.Common.{Bool, ap, arith, false, inl, inr, refl, true, ℕ, ⊎_elim, ◌/◌, ◌≡◌, ◌⊎◌}
use Rattle.std.proofs.lemmas.Bool.{eqb-true, false≢true}
use Rattle.std.specs.Prelude.{None, Option, Some, is_some, ◌||◌}
use Rattle.orc_words.specs.Bounds.{Bounds}
use Rattle.orc_words.specs.Packed.{bit, named}
use Rattle.orc_core.proofs.Within.{and_both}
use Rattle.orc_core.specs.After.{after}
use Rattle.orc_core.specs.Allowed.{fits, may_target}
use Rattle.orc_core.specs.RecordParts.{any_holds, doom_cut, holds, names, saw, scans, slot_of}
use Rattle.orc_core.specs.declared.ops.Op.{Op}
use Rattle.orc_core.specs.declared.ops.Op.TheVariants.{Arm, Dec, GateTake, Inc, LinkCas, LinkLoad, LinkStore, Publish, Unretire, MoveOn, DecHeld}
use Rattle.orc_core.specs.declared.records.Agent.{Agent}
use Rattle.orc_core.specs.declared.records.Doom.{Doom}
use Rattle.orc_sound.proofs.Facts.{to_row}
use Rattle.orc_sound.proofs.Sources.{NewHold, any_holds_at, counts, dec_source, due_source, fresh_source, holds_source, inc_source, links, takes, unlinks}
use Rattle.orc_sound.specs.Linked.{uses}
use Rattle.orc_sound.specs.RetirementToken.{HasOnePart}

-- a link that was read, a scan, or a row that was taken
abbrev pub NewUse : Op → Agent → ℕ → ℕ → Type 0
NewUse (LinkLoad p k) d v r = to_row v r ≡ 1
NewUse (LinkStore q l nr) d v r = to_row v r ≡ 1
NewUse (Arm q) d v r = (r ≡ q) × (scans d.scan q ≡ true)
NewUse (GateTake q) d v r = takes (GateTake q) d v r ≡ true
NewUse _ d v r = ⊥

pub any_of : (a b c d e : Bool) → (a || b || c || d || e) ≡ true → (a ≡ true) ⊎ (b ≡ true) ⊎ (c ≡ true) ⊎ (d ≡ true) ⊎ (e ≡ true)
any_of true b c d e h = inl refl
any_of false true c d e h = inr (inl refl)
any_of false false true d e h = inr (inr (inl refl))
any_of false false false true e h = inr (inr (inr (inl refl)))
any_of false false false false e h = inr (inr (inr (inr h)))

pub held_uses : (d : Agent) (r : ℕ) → any_holds d.slots r ≡ true → uses d r ≡ true
held_uses d r h = grind arith

pub fresh_uses : (d : Agent) (r : ℕ) → names d.fresh r ≡ true → uses d r ≡ true
fresh_uses d r h = grind arith

pub inc_uses : (d : Agent) (r : ℕ) → names d.inc r ≡ true → uses d r ≡ true
inc_uses d r h = grind arith

pub dec_uses : (d : Agent) (r : ℕ) → names d.dec r ≡ true → uses d r ≡ true
dec_uses d r h = grind arith

pub due_uses : (d : Agent) (r : ℕ) → saw d.due r ≡ true → uses d r ≡ true
due_uses d r h = grind arith

target_held : (b : Bounds) (d : Agent) (t : Option ℕ) (r : ℕ) → may_target b d t ≡ true → names t r ≡ true → any_holds d.slots r ≡ true
target_held b d None r h k = absurd (false≢true k)
target_held b d (Some q) r h k = rw (← eqb-true q r k) (and_both _ _ h).1

-- who makes a link to a row holds it
pub links_held : (b : Bounds) (e a : ℕ) (op : Op) (d : Agent) (r : ℕ) → fits b e a op d ≡ true → links op r ≡ true → any_holds d.slots r ≡ true
links_held b e a (LinkCas p x t) d r f h = target_held b d t.to r (and_both _ _ (and_both _ _ f).0).1 h
links_held b e a (LinkStore q l nr) d r f h = grind (arith, target_held b d l.to r)
links_held b e a op d r f h = absurd (false≢true h)

-- and goes on holding it
pub links_holds : (op : Op) (d : Agent) (v r : ℕ) → links op r ≡ true → any_holds d.slots r ≡ true → any_holds (after op d v).slots r ≡ true
links_holds (LinkCas w x t) d v r n h = h
links_holds (LinkStore q l nr) d v r n h = h
links_holds op d v r n h = absurd (false≢true n)

names_link : (w r : ℕ) → names (named (w / 2)) r ≡ true → to_row w r ≡ 1
names_link w r h = grind arith

hold_use : (op : Op) (d : Agent) (v r : ℕ) → NewHold op d v r → (uses d r ≡ true) ⊎ NewUse op d v r
hold_use (LinkLoad p k) d v r h = inr h
hold_use (Publish k q) d v r h = inl (fresh_uses d r h)
hold_use (MoveOn k q) d v r h = inl (fresh_uses d r h)
hold_use (Arm q) d v r h = ⊎_elim (λ k. inl (dec_uses d r (rw h.0 k))) (λ k. inr (h.0, k)) h.1
hold_use op d v r h = absurd h

fresh_use : (op : Op) (d : Agent) (v r : ℕ) → takes op d v r ≡ true → (uses d r ≡ true) ⊎ NewUse op d v r
fresh_use (GateTake q) d v r h = inr h
fresh_use op d v r h = absurd (false≢true h)

dec_use : (b : Bounds) (e a : ℕ) (op : Op) (d : Agent) (v r : ℕ) → fits b e a op d ≡ true → unlinks op v r ≡ true → (uses d r ≡ true) ⊎ NewUse op d v r
dec_use b e a (LinkCas p x t) d v r f h = inl (held_uses d r (target_held b d x.to r (and_both _ _ (and_both _ _ (and_both _ _ f).0).0).1 h))
dec_use b e a (LinkStore q l nr) d v r f h = inr (names_link v r h)
dec_use b e a op d v r f h = absurd (false≢true h)

pub cut_some : (links : ℕ) (o : Option Doom) (q : ℕ) → doom_cut links o q ≡ true → bit (is_some o) ≡ 1
cut_some links None q h = absurd (false≢true h)
cut_some links (Some x) q h = refl

-- an agent with a scan, that may clear a bit, holds the row in slot 0
pub unretire_holds : (b : Bounds) (e a q : ℕ) (d : Agent) → fits b e a (Unretire q) d ≡ true → is_some d.scan ≡ true → HasOnePart d
    → holds (slot_of d 0) q ≡ true
unretire_holds b e a q d f s o = cases (doom_cut b.links d.doom q) refl
  where
    cases : (t : Bool) → doom_cut b.links d.doom q ≡ t → holds (slot_of d 0) q ≡ true
    cases true h = let k = cut_some b.links d.doom q h in let j = ap bit s in absurd (omega arith)
    cases false h = grind arith

-- a row that is due anew is held
pub counts_held : (b : Bounds) (e a : ℕ) (op : Op) (d : Agent) (r : ℕ) → fits b e a op d ≡ true → HasOnePart d
    → (names d.inc r ≡ true → any_holds d.slots r ≡ true) → counts op d.scan r ≡ true → any_holds d.slots r ≡ true
counts_held b e a (Inc q) d r f o i h = i (rw (← eqb-true q r h) (and_both _ _ f).1)
counts_held b e a (Dec q) d r f o i h = rw (← eqb-true q r h) (any_holds_at d.slots 0 q (and_both _ _ f).1)
counts_held b e a (DecHeld q) d r f o i h = rw (← eqb-true q r h) (and_both _ _ f).1
counts_held b e a (Unretire q) d r f o i h = rw (← eqb-true q r (and_both _ _ h).0) (any_holds_at d.slots 0 q (unretire_holds b e a q d f (and_both _ _ h).1 o))
counts_held b e a op d r f o i h = absurd (false≢true h)

pub use_source : (b : Bounds) (e a : ℕ) (op : Op) (d : Agent) (v r : ℕ) → fits b e a op d ≡ true → HasOnePart d → (names d.inc r ≡ true → any_holds d.slots r ≡ true) → uses (after op d v) r ≡ true → (uses d r ≡ true) ⊎ NewUse op d v r
use_source b e a op d v r f o i h =
    ⊎_elim
    (λ s. ⊎_elim (λ k. inl (held_uses d r k)) (λ n. hold_use op d v r n) (holds_source b e a op d v r f s))
    (λ g. ⊎_elim
    (λ s. ⊎_elim (λ k. inl (fresh_uses d r k)) (λ n. fresh_use op d v r n) (fresh_source op d v r s))
    (λ g. ⊎_elim
    (λ s. ⊎_elim (λ k. inl (inc_uses d r k)) (λ n. inl (held_uses d r (links_held b e a op d r f n))) (inc_source op d v r s))
    (λ g. ⊎_elim
    (λ s. ⊎_elim (λ k. inl (dec_uses d r k)) (λ n. dec_use b e a op d v r f n) (dec_source op d v r s))
    (λ s. ⊎_elim (λ k. inl (due_uses d r k)) (λ n. inl (held_uses d r (counts_held b e a op d r f o i n))) (due_source op d v r s))
    g)
    g)
    g)
    (any_of _ _ _ _ _ h)
