-- Steps that leave links, values and the rows that are out as they are.
use Rattle.std.proofs.Common.{Bool, arith, cond, false, inl, refl, get_or-set_other, sym, true, ℕ, ⊎_elim, ◌+◌, ◌%◌, ◌<◌, ◌∙◌, ◌≡◌, ◌≢◌, ◌⊎◌}
use Rattle.std.proofs.lemmas.Bool.{eq-eqb, eqb-false, eqb-true, false≢true}
use Rattle.std.specs.Prelude.{None, Option, Some, not, ◌==◌}
use Rattle.orc_core.proofs.Within.{and_both}
use Rattle.orc_words.specs.Operations.{word_after}
use Rattle.orc_core.specs.Actions.{action_of}
use Rattle.orc_core.specs.After.{after, bared, cut_of}
use Rattle.orc_core.specs.Allowed.{fits}
use Rattle.orc_core.specs.RecordParts.{doom_bare, holds, names, slot_of}
use Rattle.orc_core.specs.declared.ops.CounterUse.TheVariants.{Check, End, Start}
use Rattle.orc_core.specs.declared.ops.Op.{Op}
use Rattle.orc_core.specs.declared.ops.Op.TheVariants.{Arm, CounterLoad, Fill, Free, GateLook, GateTake, LinkCas, LinkLoad, LinkStore, Publish, Read, Unretire, MoveOn}
use Rattle.orc_core.specs.declared.records.Agent.{Agent}
use Rattle.orc_core.specs.declared.records.Doom.{Doom}
use Rattle.orc_core.specs.declared.records.SlotUse.TheVariants.{Empty, Held}
use Rattle.orc_projection.specs.Projection.{is_taken}
use Rattle.orc_sound.proofs.CountedStep.{scan_no_doom}
use Rattle.orc_sound.proofs.Facts.{LawfulStep, out}
use Rattle.orc_sound.proofs.Outs.{bare_dooms, freed, zero_one}
use Rattle.orc_sound.proofs.Quiet.{slot_source}
use Rattle.orc_sound.proofs.Scans.{end_parts}
use Rattle.orc_sound.proofs.Seats.{seat_split}
use Rattle.orc_sound.proofs.Sources.{NewHold, fresh_source, gate_source, takes, write_same}
use Rattle.orc_sound.specs.Lifetimes.{frees}
use Rattle.orc_sound.proofs.World.{World, read_by, record_by, seat, step_world, write}
use Rattle.orc_sound.specs.Doomed.{cuts_past}
use Rattle.orc_words.specs.Bounds.{Bounds}
use Rattle.orc_words.specs.Packed.{link_word}
use Rattle.orc_words.specs.declared.place.Word.{Word}
use Rattle.orc_words.specs.declared.place.Word.TheVariants.{Enrolled, First, Gate, Next, Root, Second, Side}

-- the step takes no row, fills no value and changes no link
abbrev pub is_still : Op → Agent → ℕ → Bool
is_still (GateTake q) d v = not (is_taken d v)
is_still (Fill q which x) d v = false
is_still (LinkCas w f t) d v = not (v == link_word f)
is_still (LinkStore q l nr) d v = false
is_still op d v = true

-- a link or a value
abbrev pub is_data : Word → Bool
is_data (Root i) = true
is_data (First r) = true
is_data (Second r) = true
is_data (Next r) = true
is_data (Side r) = true
is_data w = false

pub not-false : (b : Bool) → not b ≡ true → b ≡ false
not-false true h = sym h
not-false false h = refl

lost_same : (m : Word → ℕ) (w x : Word) (v : ℕ) (t : Bool) → t ≡ false → write m w (cond t v (m w)) x ≡ m x
lost_same m w x v true e = absurd (false≢true (sym e))
lost_same m w x v false e = write_same m w x

pub still_words : (a : ℕ) (op : Op) (d : Agent) (m : Word → ℕ) (x : Word) → is_still op d (m (action_of a op d).word) ≡ true → is_data x ≡ true
    → write m (action_of a op d).word (word_after (action_of a op d).operation (m (action_of a op d).word)) x ≡ m x
still_words a (GateLook q) d m x s t = write_same m (Gate q) x
still_words a (LinkLoad w k) d m x s t = write_same m w x
still_words a (Read q w) d m x s t = write_same m (cond (w == 0) (First q) (Second q)) x
still_words a (LinkCas w f l) d m x s t = lost_same m w x (link_word l) (m w == link_word f) (not-false _ s)
still_words a (Fill q w v) d m x s t = absurd (false≢true s)
still_words a (LinkStore q l nr) d m x s t = absurd (false≢true s)
still_words a op d m (Root i) s t = refl
still_words a op d m (First i) s t = refl
still_words a op d m (Second i) s t = refl
still_words a op d m (Next i) s t = refl
still_words a op d m (Side i) s t = refl
still_words a op d m x s t = absurd (false≢true t)

pub still_takes : (op : Op) (d : Agent) (v r : ℕ) → is_still op d v ≡ true → takes op d v r ≡ true → ⊥
still_takes (GateTake q) d v r s h = false≢true (sym (not-false _ s) ∙ (and_both _ _ h).1)
still_takes op d v r s h = false≢true h

-- a row that is out after a step that doesn't take it was out before
pub out_before : (b : Bounds) (z : World) (a : ℕ) (op : Op) (j : ℕ) → LawfulStep b z a op → (takes op (z.seats a) (read_by z a op) j ≡ true → ⊥)
    → out ((step_world z a op).memory (Gate j)) ≡ 1 → out (z.memory (Gate j)) ≡ 1
out_before b z a op j l n h = cases (frees op j) refl
  where
    cases : (t : Bool) → frees op j ≡ t → out (z.memory (Gate j)) ≡ 1
    cases true e = (freed b z a op j l e).gone.is_out
    cases false e = ⊎_elim (λ o. o) (λ t. absurd (n t)) (gate_source b (z.memory Enrolled) a op (z.seats a) z.memory j l.fits e h)

-- a row that is fresh after a step that doesn't take it was fresh before
pub fresh_before : (z : World) (a : ℕ) (op : Op) (x j : ℕ) → (takes op (z.seats a) (read_by z a op) j ≡ true → ⊥)
    → names ((step_world z a op).seats x).fresh j ≡ true → names (z.seats x).fresh j ≡ true
fresh_before z a op x j n h =
    ⊎_elim
    (λ s. ⊎_elim (λ old. rw s.0 old) (λ t. absurd (n t)) (fresh_source op (z.seats a) (read_by z a op) j s.1))
    (λ s. s.1)
    (seat_split (λ d. names d.fresh j ≡ true) z.seats a x (record_by z a op) h)

-- what a slot from 1 on newly holds: the row of the link that was read, or the fresh row
abbrev pub NewlyHeld : Op → Agent → ℕ → ℕ → Type 0
NewlyHeld (LinkLoad w k) d v r = NewHold (LinkLoad w k) d v r
NewlyHeld (Publish k q) d v r = NewHold (Publish k q) d v r
NewlyHeld (MoveOn k q) d v r = NewHold (MoveOn k q) d v r
NewlyHeld op d v r = ⊥

pub hold_before : (b : Bounds) (e a : ℕ) (op : Op) (d : Agent) (v k r : ℕ) → fits b e a op d ≡ true → 0 < k
    → holds (slot_of (after op d v) k) r ≡ true → (holds (slot_of d k) r ≡ true) ⊎ NewlyHeld op d v r
hold_before b e a (LinkLoad w j) d v k r f g h = slot_source b e a (LinkLoad w j) d v k r f h
hold_before b e a (Publish j q) d v k r f g h = slot_source b e a (Publish j q) d v k r f h
hold_before b e a (MoveOn j q) d v k r f g h = slot_source b e a (MoveOn j q) d v k r f h
hold_before b e a (Arm q) d v k r f g h = inl (rw (get_or-set_other d.slots 0 k (Held q) Empty (λ e. omega arith)) at h)
hold_before b e a op d v k r f g h = ⊎_elim (λ o. inl o) (λ n. absurd n) (slot_source b e a op d v k r f h)

-- what the stepping agent's record has by one reason, and another's by another
pub seat_put : (P : Agent → Type 0) (seats : ℕ → Agent) (a x : ℕ) (d : Agent) → (x ≡ a → P d) → (x ≢ a → P (seats x)) → P (seat seats a d x)
seat_put P seats a x d h k = cases (x == a) refl
  where
    cases : (t : Bool) → (x == a) ≡ t → P (cond t d (seats x))
    cases true e = h (eqb-true x a e)
    cases false e = k (eqb-false x a e)

bared_past : (o : Option Doom) (r n : ℕ) → cuts_past o r n ≡ true → cuts_past (bared o) r n ≡ true
bared_past None r n h = h
bared_past (Some d) r n h = h

past_more : (o : Option Doom) (q k r n : ℕ) → cuts_past o r n ≡ true → cuts_past (cut_of o q k) r n ≡ true
past_more None q k r n h = h
past_more (Some d) q k r n h = grind arith

bare_row : (o : Option Doom) (q r n : ℕ) → doom_bare o q ≡ true → cuts_past o r n ≡ true → r ≡ q
bare_row None q r n h k = absurd (false≢true h)
bare_row (Some d) q r n h k = let x = eqb-true d.row q (and_both _ _ h).0 in let y = eqb-true d.row r (and_both _ _ k).0 in sym y ∙ x

freed_even : (w : ℕ) → out w ≡ 1 → out ((w + 18446744073709551615) % 18446744073709551616) ≡ 0
freed_even w h = omega arith

own_cut : (b : Bounds) (z : World) (a : ℕ) (op : Op) (j n : ℕ) → LawfulStep b z a op → out ((step_world z a op).memory (Gate j)) ≡ 1
    → cuts_past (z.seats a).doom j n ≡ true → cuts_past (record_by z a op).doom j n ≡ true
own_cut b z a (LinkStore q l nr) j n p o h = past_more (z.seats a).doom q nr j n h
own_cut b z a (CounterLoad q Check) j n p o h = h
own_cut b z a (CounterLoad q Start) j n p o h = h
own_cut b z a (CounterLoad q End) j n p o h =
    let e = scan_no_doom (z.seats a) q (p.counted.one_part a) (end_parts b (z.memory Enrolled) a q (z.seats a) p.fits).1 in
    absurd (false≢true (rw e at h))
own_cut b z a (Unretire q) j n p o h = bared_past (z.seats a).doom j n h
own_cut b z a (Free q) j n p o h =
    let k = (and_both _ _ p.fits).1 in
    let e = bare_row (z.seats a).doom q j n k h in
    let g = (p.doomed.gone a q (bare_dooms (z.seats a).doom q k)).is_out in
    absurd (zero_one (freed_even (z.memory (Gate q)) g) (rw (eq-eqb j q e) at o))
own_cut b z a op j n p o h = h

-- some agent took the row's link of this number out
pub record IsCut (b : Bounds) (z : World) (j n : ℕ) : Type 0 where
  pub agent : ℕ
  pub below : agent < b.agents
  pub cut : cuts_past (z.seats agent).doom j n ≡ true

pub cut_stays : (b : Bounds) (z : World) (a : ℕ) (op : Op) (j n : ℕ) → LawfulStep b z a op → out ((step_world z a op).memory (Gate j)) ≡ 1 → IsCut b z j n
    → IsCut b (step_world z a op) j n
cut_stays b z a op j n p o c = record {
  agent = c.agent;
  below = c.below;
  cut = seat_put (λ d. cuts_past d.doom j n ≡ true) z.seats a c.agent (record_by z a op) (λ e. own_cut b z a op j n p o (rw e at c.cut)) (λ ne. c.cut);
}
