-- The lives of rows, and what an agent that looked at a free row and checked it knows.
use Rattle.std.proofs.Common.{Bool, ap, arith, cond, false, inl, inr, refl, sym, true, ℕ, ⊎_elim, ◌%◌, ◌*◌, ◌+◌, ◌/◌, ◌<◌, ◌^◌, ◌∙◌, ◌≡◌, ◌≤◌, ◌⊎◌, zero, suc}
use Rattle.std.proofs.lemmas.Bool.{eq-eqb, eqb-true, false≢true, ltb-true}
use Rattle.std.specs.Prelude.{None, Some, ◌&&◌, ◌==◌}
use Rattle.orc_words.specs.Bounds.{Bounds}
use Rattle.orc_words.specs.Packed.{sequence_of}
use Rattle.orc_words.specs.declared.place.Word.{Word}
use Rattle.orc_words.specs.declared.place.Word.TheVariants.{Counter, Enrolled, First, Gate, Next, Root, Second, Side}
use Rattle.orc_core.proofs.Within.{and_both}
use Rattle.orc_words.specs.Operations.{word_after}
use Rattle.orc_core.specs.Actions.{action_of}
use Rattle.orc_core.specs.After.{after}
use Rattle.orc_core.specs.RecordParts.{number_of, saw}
use Rattle.orc_core.specs.declared.ops.CounterUse.TheVariants.{Check, End, Start}
use Rattle.orc_core.specs.declared.ops.Op.{Op}
use Rattle.orc_core.specs.declared.ops.Op.TheVariants.{CounterLoad, Fill, Free, GateLook, GateTake, LinkCas, LinkLoad, LinkStore, Read}
use Rattle.orc_core.specs.declared.records.Agent.{Agent}
use Rattle.orc_sound.proofs.DoomedStep.{counts_uses, sequence_stays}
use Rattle.orc_sound.proofs.Facts.{LawfulStep, out}
use Rattle.orc_sound.proofs.Outs.{cas_place_out, freed_row}
use Rattle.orc_sound.proofs.Pending.{not_seen}
use Rattle.orc_sound.proofs.Quiet.{counts_row}
use Rattle.orc_sound.proofs.Seats.{not_true}
use Rattle.orc_sound.proofs.Sources.{write_same}
use Rattle.orc_sound.proofs.World.{World, read_by, record_by, step_world, write}

-- a row that was seen free is still in that life, or its life is over
pub record LivesFit (b : Bounds) (z : World) : Type 0 where
  pub within : (r : ℕ) → z.memory (Gate r) / 2 ≤ b.limit
  pub looked : (a r : ℕ) → saw (z.seats a).looked r ≡ true → (z.memory (Gate r) ≡ 2 * number_of (z.seats a).looked)
      ⊎ (number_of (z.seats a).looked < z.memory (Gate r) / 2)
  pub checked : (a r : ℕ) → saw (z.seats a).looked r ≡ true → saw (z.seats a).checked r ≡ true → z.memory (Gate r) ≡ 2 * number_of (z.seats a).looked
      → sequence_of (z.memory (Counter r)) ≡ number_of (z.seats a).checked

-- how a step may change a gate: not at all, to the next life, or free at the end of a life
abbrev pub GateChange : Bounds → ℕ → ℕ → Type 0
GateChange b v w = (w ≡ v) ⊎ ((v % 2 ≡ 0) × (w ≡ v + 3) × (v / 2 < b.limit)) ⊎ ((v % 2 ≡ 1) × (w + 1 ≡ v))

take_gate : (b : Bounds) (m : Word → ℕ) (q r n : ℕ) → n < b.limit
    → GateChange b (m (Gate r)) (write m (Gate q) (cond (m (Gate q) == 2 * n) (2 * (n + 1) + 1) (m (Gate q))) (Gate r))
take_gate b m q r n l = cases (r == q) (m (Gate q) == 2 * n) refl refl
  where
    cases : (t u : Bool) → (r == q) ≡ t → (m (Gate q) == 2 * n) ≡ u → GateChange b (m (Gate r)) (cond t (cond u (2 * (n + 1) + 1) (m (Gate q))) (m (Gate r)))
    cases true true e f = let k = eqb-true r q e in let g = eqb-true (m (Gate q)) (2 * n) f in rw k (inr (inl (omega arith, omega arith, omega arith)))
    cases true false e f = inl (ap (λ x. m (Gate x)) (sym (eqb-true r q e)))
    cases false u e f = inl refl

free_gate : (b : Bounds) (m : Word → ℕ) (q r : ℕ) → b.limit ≤ 2 ^ 39 → m (Gate q) / 2 ≤ b.limit → out (m (Gate q)) ≡ 1
    → GateChange b (m (Gate r)) (write m (Gate q) ((m (Gate q) + 18446744073709551615) % 18446744073709551616) (Gate r))
free_gate b m q r s l o = cases (r == q) refl
  where
    cases : (t : Bool) → (r == q) ≡ t → GateChange b (m (Gate r)) (cond t ((m (Gate q) + 18446744073709551615) % 18446744073709551616) (m (Gate r)))
    cases true e = rw (eqb-true r q e) (inr (inr (o, omega arith)))
    cases false e = inl refl

pub gate_change : (b : Bounds) (z : World) (a : ℕ) (op : Op) (r : ℕ) → LawfulStep b z a op → LivesFit b z
    → GateChange b (z.memory (Gate r)) ((step_world z a op).memory (Gate r))
gate_change b z a (GateLook q) r p s = inl (write_same z.memory (Gate q) (Gate r))
gate_change b z a (GateTake q) r p s =
    take_gate b z.memory q r (number_of (z.seats a).looked) (ltb-true (number_of (z.seats a).looked) b.limit (and_both _ _ (and_both _ _ p.fits).0).1)
gate_change b z a (LinkLoad w k) r p s = inl (write_same z.memory w (Gate r))
gate_change b z a (LinkCas (Root i) x t) r p s = inl refl
gate_change b z a (LinkCas (Next i) x t) r p s = inl refl
gate_change b z a (LinkCas (Side i) x t) r p s = inl refl
gate_change b z a (LinkCas w x t) r p s = absurd (cas_place_out b z a w x t p)
gate_change b z a (Fill q w v) r p s = inl (fill_same z.memory q w v r)
  where
    fill_same : (m : Word → ℕ) (q w v r : ℕ) → write m (cond (w == 0) (First q) (Second q)) v (Gate r) ≡ m (Gate r)
    fill_same m q w v r = grind arith
gate_change b z a (Read q w) r p s = inl (write_same z.memory (cond (w == 0) (First q) (Second q)) (Gate r))
gate_change b z a (Free q) r p s = free_gate b z.memory q r p.shape.limit.1 (s.within q) (freed_row b z a q p).gone.is_out
gate_change b z a (LinkStore lq ll zero) r p s = inl refl
gate_change b z a (LinkStore lq ll (suc ln)) r p s = inl refl
gate_change b z a op r p s = inl refl

within_step : (b : Bounds) (v w : ℕ) → GateChange b v w → v / 2 ≤ b.limit → w / 2 ≤ b.limit
within_step b v w (inl e) h = rw e h
within_step b v w (inr (inl e)) h = let i = e.0 in let j = e.1 in let k = e.2 in omega arith
within_step b v w (inr (inr e)) h = let i = e.0 in let j = e.1 in omega arith

-- a life that is over stays over, and a free row's life is over once its gate changes
look_stays : (b : Bounds) (v w n : ℕ) → GateChange b v w → (v ≡ 2 * n) ⊎ (n < v / 2) → (w ≡ 2 * n) ⊎ (n < w / 2)
look_stays b v w n (inl e) h = rw e h
look_stays b v w n (inr (inl e)) (inl h) = let i = e.1 in inr (omega arith)
look_stays b v w n (inr (inl e)) (inr h) = let i = e.1 in inr (omega arith)
look_stays b v w n (inr (inr e)) (inl h) = let i = e.0 in absurd (omega arith)
look_stays b v w n (inr (inr e)) (inr h) = let i = e.0 in let j = e.1 in inr (omega arith)

-- a gate that shows that free life showed it before
gate_back : (b : Bounds) (v w n : ℕ) → GateChange b v w → (v ≡ 2 * n) ⊎ (n < v / 2) → w ≡ 2 * n → w ≡ v
gate_back b v w n (inl e) h k = e
gate_back b v w n (inr (inl e)) h k = let i = e.0 in let j = e.1 in absurd (omega arith)
gate_back b v w n (inr (inr e)) (inl h) k = let i = e.0 in absurd (omega arith)
gate_back b v w n (inr (inr e)) (inr h) k = let i = e.0 in let j = e.1 in absurd (omega arith)

-- an agent that has looked at a row and checked it after that step had done so before it, or does so by it
abbrev pub looks : Op → ℕ → ℕ → Bool
looks (GateLook q) v r = (q == r) && (v % 2 == 0)
looks _ v r = false

look_source : (op : Op) (d : Agent) (v r : ℕ) → saw (after op d v).looked r ≡ true
    → ((saw d.looked r ≡ true) × (number_of (after op d v).looked ≡ number_of d.looked)) ⊎ ((looks op v r ≡ true) × (number_of (after op d v).looked ≡ v / 2))
look_source (GateLook q) d v r h = looked_at (v % 2 == 0) h
  where
    looked_at : (t : Bool) → saw (cond t (Some (record { row = q; number = v / 2 })) None) r ≡ true
        → ((saw d.looked r ≡ true) × (number_of (cond t (Some (record { row = q; number = v / 2 })) None) ≡ number_of d.looked))
        ⊎ (((q == r) && t ≡ true) × (number_of (cond t (Some (record { row = q; number = v / 2 })) None) ≡ v / 2))
    looked_at true h = inr (rw h, refl)
    looked_at false h = absurd (false≢true h)
look_source (GateTake q) d v r h = absurd (false≢true h)
look_source op d v r h = inl (h, refl)

look_word : (op : Op) (a : ℕ) (d : Agent) (m : Word → ℕ) (r : ℕ) → looks op (m (action_of a op d).word) r ≡ true
    → (m (Gate r) ≡ 2 * (m (action_of a op d).word / 2)) × ((after op d (m (action_of a op d).word)).checked ≡ None)
look_word (GateLook q) a d m r h = (rw (← eqb-true q r (and_both _ _ h).0) (even_word (m (Gate q)) (and_both _ _ h).1), refl)
  where
    even_word : (w : ℕ) → (w % 2 == 0) ≡ true → w ≡ 2 * (w / 2)
    even_word w e = let k = eqb-true (w % 2) 0 e in omega arith
look_word op a d m r h = absurd (false≢true h)

looked_step : (b : Bounds) (z : World) (a : ℕ) (op : Op) → LawfulStep b z a op → LivesFit b z → (x r : ℕ)
    → saw ((step_world z a op).seats x).looked r ≡ true → ((step_world z a op).memory (Gate r) ≡ 2 * number_of ((step_world z a op).seats x).looked)
    ⊎ (number_of ((step_world z a op).seats x).looked < (step_world z a op).memory (Gate r) / 2)
looked_step b z a op p s x r h = cases (x == a) h
  where
    change : GateChange b (z.memory (Gate r)) ((step_world z a op).memory (Gate r))
    change = gate_change b z a op r p s

    cases : (t : Bool) → saw (cond t (record_by z a op) (z.seats x)).looked r ≡ true
        → ((step_world z a op).memory (Gate r) ≡ 2 * number_of (cond t (record_by z a op) (z.seats x)).looked)
        ⊎ (number_of (cond t (record_by z a op) (z.seats x)).looked < (step_world z a op).memory (Gate r) / 2)
    cases true k =
        ⊎_elim
        (λ old. rw old.1 (look_stays b (z.memory (Gate r)) ((step_world z a op).memory (Gate r)) (number_of (z.seats a).looked) change (s.looked a r old.0)))
        (λ new. rw new.1
        (look_stays b (z.memory (Gate r)) ((step_world z a op).memory (Gate r)) (read_by z a op / 2) change
        (inl (look_word op a (z.seats a) z.memory r new.0).0)))
        (look_source op (z.seats a) (read_by z a op) r k)
    cases false k = look_stays b (z.memory (Gate r)) ((step_world z a op).memory (Gate r)) (number_of (z.seats x).looked) change (s.looked x r k)

-- a check is new where the counter was read for it
abbrev pub reads : Op → ℕ → Bool
reads (CounterLoad q Check) r = q == r
reads _ r = false

check_source : (op : Op) (d : Agent) (v r : ℕ) → saw (after op d v).checked r ≡ true
    → ((saw d.checked r ≡ true) × (number_of (after op d v).checked ≡ number_of d.checked))
    ⊎ ((reads op r ≡ true) × (number_of (after op d v).checked ≡ sequence_of v))
check_source (GateLook q) d v r h = absurd (false≢true h)
check_source (GateTake q) d v r h = absurd (false≢true h)
check_source (LinkCas p x t) d v r h = absurd (false≢true h)
check_source (LinkStore q l nr) d v r h = absurd (false≢true h)
check_source (CounterLoad q Check) d v r h = inr (h, refl)
check_source (CounterLoad q Start) d v r h = inl (h, refl)
check_source (CounterLoad q End) d v r h = inl (h, refl)
check_source op d v r h = inl (h, refl)

read_sequence : (op : Op) (a : ℕ) (d : Agent) (m : Word → ℕ) (r : ℕ) → reads op r ≡ true
    → sequence_of (write m (action_of a op d).word (word_after (action_of a op d).operation (m (action_of a op d).word)) (Counter r)) ≡ sequence_of
    (m (action_of a op d).word)
read_sequence (CounterLoad q Check) a d m r h = rw (eqb-true q r h, eq-eqb r r refl)
read_sequence (CounterLoad q Start) a d m r h = absurd (false≢true h)
read_sequence (CounterLoad q End) a d m r h = absurd (false≢true h)
read_sequence op a d m r h = absurd (false≢true h)

-- the sequence of a row that is free is left by every step
free_sequence : (b : Bounds) (z : World) (a : ℕ) (op : Op) (r n : ℕ) → LawfulStep b z a op
    → ((q : ℕ) → sequence_of (z.memory (Counter q)) < 2 ^ 39 + 2 ^ 19) → z.memory (Gate r) ≡ 2 * n
    → sequence_of ((step_world z a op).memory (Counter r)) ≡ sequence_of (z.memory (Counter r))
free_sequence b z a op r n p lo h =
    sequence_stays b z a op r p lo
    (not_true (counts_row op r) (λ k. even_out (p.counted.used_out a r (counts_uses b (z.memory Enrolled) a op (z.seats a) r p.fits k))))
  where
    even_out : out (z.memory (Gate r)) ≡ 1 → ⊥
    even_out k = omega arith

checked_step : (b : Bounds) (z : World) (a : ℕ) (op : Op) → LawfulStep b z a op → ((q : ℕ) → sequence_of (z.memory (Counter q)) < 2 ^ 39 + 2 ^ 19)
    → LivesFit b z → (x r : ℕ) → saw ((step_world z a op).seats x).looked r ≡ true → saw ((step_world z a op).seats x).checked r ≡ true
    → (step_world z a op).memory (Gate r) ≡ 2 * number_of ((step_world z a op).seats x).looked
    → sequence_of ((step_world z a op).memory (Counter r)) ≡ number_of ((step_world z a op).seats x).checked
checked_step b z a op p lo s x r h k g = cases (x == a) h k g
  where
    back : (n : ℕ) → (z.memory (Gate r) ≡ 2 * n) ⊎ (n < z.memory (Gate r) / 2) → (step_world z a op).memory (Gate r) ≡ 2 * n → z.memory (Gate r) ≡ 2 * n
    back n o e = sym (gate_back b (z.memory (Gate r)) ((step_world z a op).memory (Gate r)) n (gate_change b z a op r p s) o e) ∙ e

    cases : (t : Bool) → saw (cond t (record_by z a op) (z.seats x)).looked r ≡ true → saw (cond t (record_by z a op) (z.seats x)).checked r ≡ true
        → (step_world z a op).memory (Gate r) ≡ 2 * number_of (cond t (record_by z a op) (z.seats x)).looked
        → sequence_of ((step_world z a op).memory (Counter r)) ≡ number_of (cond t (record_by z a op) (z.seats x)).checked
    cases true h k g =
        ⊎_elim
        (λ l. ⊎_elim
        (λ c. let e = back (number_of (z.seats a).looked) (s.looked a r l.0) (g ∙ ap (λ n. 2 * n) l.1) in
        free_sequence b z a op r (number_of (z.seats a).looked) p lo e ∙ s.checked a r l.0 c.0 e ∙ sym c.1)
        (λ c. read_sequence op a (z.seats a) z.memory r c.0 ∙ sym c.1)
        (check_source op (z.seats a) (read_by z a op) r k))
        (λ l. absurd (not_seen (record_by z a op).checked r (look_word op a (z.seats a) z.memory r l.0).1 k))
        (look_source op (z.seats a) (read_by z a op) r h)
    cases false h k g = let e = back (number_of (z.seats x).looked) (s.looked x r h) g in
        free_sequence b z a op r (number_of (z.seats x).looked) p lo e ∙ s.checked x r h k e

pub lives_step : (b : Bounds) (z : World) (a : ℕ) (op : Op) → LawfulStep b z a op → ((q : ℕ) → sequence_of (z.memory (Counter q)) < 2 ^ 39 + 2 ^ 19)
    → LivesFit b z → LivesFit b (step_world z a op)
lives_step b z a op p lo s = record {
  within = λ r. within_step b (z.memory (Gate r)) ((step_world z a op).memory (Gate r)) (gate_change b z a op r p s) (s.within r);
  looked = looked_step b z a op p s;
  checked = checked_step b z a op p lo s;
}
