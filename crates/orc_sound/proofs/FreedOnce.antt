-- A row is freed once a life, and no sum of a step wraps.
use Rattle.std.proofs.Common.{Bool, List, [], ap, arith, cond, false, refl, subst, sym, true, ℕ, ⊎_elim, ◌%◌, ◌*◌, ◌+◌, ◌<◌, ◌^◌, ◌∙◌, ◌∷◌, ◌≡◌, ◌≢◌}
use Rattle.std.proofs.lemmas.Bool.{eq-eqb, eqb-false, eqb-true, false≢true}
use Rattle.std.specs.Prelude.{◌&&◌, ◌==◌}
use Rattle.orc_words.specs.Bounds.{Bounds}
use Rattle.orc_words.specs.Packed.{bit, sequence_of}
use Rattle.orc_words.specs.declared.place.Word.TheVariants.{Counter, Enrolled, Gate}
use Rattle.orc_core.proofs.Within.{may_within}
use Rattle.orc_words.specs.Operations.{answer_of}
use Rattle.orc_core.specs.Actions.{action_of}
use Rattle.orc_core.specs.Counts.{is_out}
use Rattle.orc_core.specs.Machine.{Machine, answer, is_allowed, record_at, step, word_in, word_read}
use Rattle.orc_core.specs.RecordParts.{number_of}
use Rattle.orc_core.specs.Runs.{IsLawful, run}
use Rattle.orc_core.specs.declared.ops.Op.{Op}
use Rattle.orc_core.specs.declared.ops.Op.TheVariants.{Dec, Enroll, Free, GateTake, Inc, Unretire, DecHeld}
use Rattle.orc_core.specs.declared.records.Agent.{Agent}
use Rattle.orc_sound.proofs.AllFits.{AllFits, all_step, allowed_step}
use Rattle.orc_sound.proofs.Bits.{unretire_one}
use Rattle.orc_sound.proofs.Bridge.{world_step}
use Rattle.orc_sound.proofs.Facts.{LawfulStep, out}
use Rattle.orc_sound.proofs.Full.{Full, full_step}
use Rattle.orc_sound.proofs.Lives.{LivesFit}
use Rattle.orc_sound.proofs.Outs.{freed, freed_row, taken_out, takes_free}
use Rattle.orc_sound.proofs.Seats.{both_ways}
use Rattle.orc_sound.proofs.Shown.{low_bit, word_shown}
use Rattle.orc_sound.proofs.Sources.{gate_source, out_stays, takes}
use Rattle.orc_sound.proofs.World.{World, read_by, step_world, world_of}
use Rattle.orc_sound.specs.Lifetimes.{NoWrap, frees, is_take_of, times_freed, times_taken}

-- a row that is out, or is taken, is freed or out
out_step : (b : Bounds) (z : World) (a : ℕ) (op : Op) (r : ℕ) → LawfulStep b z a op → LivesFit b z
    → out (z.memory (Gate r)) + bit (takes op (z.seats a) (read_by z a op) r) ≡ bit (frees op r) + out ((step_world z a op).memory (Gate r))
out_step b z a op r p s = cases (takes op (z.seats a) (read_by z a op) r) (frees op r) refl refl
  where
    not_both : (op : Op) (d : Agent) (v r : ℕ) → takes op d v r ≡ true → frees op r ≡ true → ⊥
    not_both (GateTake q) d v r h k = false≢true k
    not_both op d v r h k = false≢true h

    odd : (w : ℕ) → (w % 2 ≡ 1 → ⊥) → w % 2 ≡ 0
    odd w n = parity (w % 2 == 1) refl
      where
        parity : (t : Bool) → (w % 2 == 1) ≡ t → w % 2 ≡ 0
        parity true e = absurd (n (eqb-true (w % 2) 1 e))
        parity false e = let k : w % 2 ≢ 1 = eqb-false (w % 2) 1 e in omega arith

    freed_gate : (op : Op) → LawfulStep b z a op → frees op r ≡ true → out ((step_world z a op).memory (Gate r)) ≡ 0
    freed_gate (Free q) l h = rw (← eqb-true q r h, eq-eqb q q refl) (let o = (freed_row b z a q l).gone.is_out in let w = s.within q in
        let i = l.shape.limit.1 in omega arith)
    freed_gate op l h = absurd (false≢true h)

    cases : (t u : Bool) → takes op (z.seats a) (read_by z a op) r ≡ t → frees op r ≡ u → out (z.memory (Gate r)) + bit t ≡ bit u
        + out ((step_world z a op).memory (Gate r))
    cases true true e f = absurd (not_both op (z.seats a) (read_by z a op) r e f)
    cases true false e f = let i = takes_free op (z.seats a) z.memory a r e in let j = taken_out op (z.seats a) z.memory a r e in omega arith
    cases false true e f = let i = (freed b z a op r p f).gone.is_out in let j = freed_gate op p f in omega arith
    cases false false e f = same (out (z.memory (Gate r)) == 1) refl
      where
        same : (t : Bool) → (out (z.memory (Gate r)) == 1) ≡ t → out (z.memory (Gate r)) + 0 ≡ 0 + out ((step_world z a op).memory (Gate r))
        same true g = let i = eqb-true (out (z.memory (Gate r))) 1 g in
            let j = out_stays z.memory b (z.memory Enrolled) a op (z.seats a) r p.fits f i in omega arith
        same false g =
            let i : out (z.memory (Gate r)) ≢ 1 = eqb-false (out (z.memory (Gate r))) 1 g in
            let j = odd ((step_world z a op).memory (Gate r))
            (λ k. ⊎_elim (λ old. i old) (λ new. both_ways (takes op (z.seats a) (read_by z a op) r) new e)
            (gate_source b (z.memory Enrolled) a op (z.seats a) z.memory r p.fits f k)) in
            omega arith

won : (t : Bool) → (cond t 1 0 == 1) ≡ t
won true = refl
won false = refl

take_core : (op : Op) (a : ℕ) (d : Agent) (v r : ℕ) → (is_take_of op r && (answer_of (action_of a op d).operation v == 1)) ≡ takes op d v r
take_core (GateTake q) a d v r = ap (λ t. (q == r) && t) (won (v == 2 * number_of d.looked))
take_core op a d v r = refl

-- a GateTake that answers 1 takes the row
pub take_answer : (m : Machine) (a : ℕ) (op : Op) (r : ℕ) → word_read m a op ≡ read_by (world_of m) a op
    → (is_take_of op r && (answer m a op == 1)) ≡ takes op (record_at m a) (read_by (world_of m) a op) r
take_answer m a op r e = take_core op a (record_at m a) (word_read m a op) r ∙ ap (λ v. takes op (record_at m a) v r) e

pub read_shown : (m : Machine) (a : ℕ) (op : Op) → is_allowed m a op ≡ true → word_read m a op ≡ read_by (world_of m) a op
read_shown m a op h = sym (word_shown m (action_of a op (record_at m a)).word (may_within m.bounds (word_in m Enrolled) a op (record_at m a) h))

pub out_bit : (m : Machine) (r : ℕ) → r < m.bounds.rows → out ((world_of m).memory (Gate r)) ≡ bit (is_out m r)
out_bit m r h = rw (word_shown m (Gate r) h) (low_bit (word_in m (Gate r)))

-- in a run, a row that is out or is taken is freed or out in the end, as often as that is
pub run_lives : (m : Machine) (steps : List (ℕ × Op)) (r : ℕ) → r < m.bounds.rows → Full m → AllFits m.bounds (world_of m) → IsLawful m steps
    → bit (is_out m r) + times_taken m steps r ≡ times_freed steps r + bit (is_out (run m steps) r)
run_lives m [] r h w s l = omega arith
run_lives m (x ∷ xs) r h w s l =
    let p = allowed_step m x.0 x.1 w s l.0 in
    let e = world_step m x.0 x.1 w.words w.agents l.0 in
    let n = subst (λ z. AllFits m.bounds z) (sym e) (all_step m.bounds (world_of m) x.0 x.1 p s) in
    let i = run_lives (step m x.0 x.1) xs r h (full_step m x.0 x.1 w) n l.1 in
    let o = out_step m.bounds (world_of m) x.0 x.1 r p s.lives in
    let t = ap bit (take_answer m x.0 x.1 r (read_shown m x.0 x.1 l.0)) in
    let a = out_bit m r h in
    let b = out_bit (step m x.0 x.1) r h in
    let c = ap (λ z. out (z.memory (Gate r))) e in
    omega arith

-- no sum or difference of a step that is allowed wraps
pub no_wrap : (b : Bounds) (z : World) (a : ℕ) (op : Op) → LawfulStep b z a op → LivesFit b z
    → ((q : ℕ) → sequence_of (z.memory (Counter q)) < 2 ^ 39 + 2 ^ 19) → NoWrap (action_of a op (z.seats a)).operation (read_by z a op)
no_wrap b z a Enroll p s lo = let e = p.counted.enrolment.most in let k = p.shape.agents.1 in omega arith
no_wrap b z a (Inc q) p s lo = let l = lo q in omega arith
no_wrap b z a (Dec q) p s lo = let l = lo q in omega arith
no_wrap b z a (DecHeld q) p s lo = let l = lo q in omega arith
no_wrap b z a (Unretire q) p s lo = let u = unretire_one b z a q p in omega arith
no_wrap b z a (Free q) p s lo = let o = (freed_row b z a q p).gone.is_out in omega arith
no_wrap b z a op p s lo = tt
