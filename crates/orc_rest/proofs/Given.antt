-- What the gates tell of a list of steps, and how the counts over rows and over steps agree.
use Rattle.std.proofs.Common.{Bool, List, [], ap, arith, false, inl, inr, refl, subst, sym, true, ℕ, ⊎_elim, ◌%◌, ◌+◌, ◌/◌, ◌<◌, ◌∙◌, ◌∷◌, ◌≡◌, ◌⊎◌}
use Rattle.std.proofs.Math.Bool.{and-false, and-true}
use Rattle.std.proofs.lemmas.Bool.{false≢true}
use Rattle.orc_core.specs.Counts.{is_out}
use Rattle.orc_core.specs.Machine.{Machine, new_machine, step, answer, word_in, record_at}
use Rattle.orc_core.specs.Runs.{IsLawful, run}
use Rattle.orc_core.specs.declared.ops.Op.{Op}
use Rattle.orc_sound.proofs.AllFits.{AllFits, all_first, all_step, allowed_step, run_bounds}
use Rattle.orc_sound.proofs.NewState.{zero_first}
use Rattle.orc_sound.proofs.Bridge.{world_step}
use Rattle.orc_sound.proofs.Facts.{LawfulStep, out}
use Rattle.orc_sound.proofs.ForRuns.{lives_counted}
use Rattle.orc_sound.proofs.FreedOnce.{read_shown, take_answer}
use Rattle.orc_sound.proofs.Full.{Full, full_first, full_step}
use Rattle.orc_sound.proofs.Lives.{LivesFit, gate_change}
use Rattle.orc_sound.proofs.Outs.{taken_out, takes_free}
use Rattle.orc_sound.proofs.Shown.{word_shown}
use Rattle.orc_sound.proofs.Sources.{gate_source, takes}
use Rattle.orc_sound.proofs.Outs.{freed}
use Rattle.orc_sound.proofs.Sums.{sum_add, sum_same, sum_point, sum_zero}
use Rattle.orc_sound.proofs.World.{World, read_by, step_world, world_of}
use Rattle.orc_sound.specs.Lifetimes.{frees, is_take_of, times_freed, times_taken}
use Rattle.orc_words.specs.Bounds.{Bounds, IsShape}
use Rattle.orc_words.specs.Packed.{bit, gate_of}
use Rattle.orc_words.specs.declared.place.Word.TheVariants.{Enrolled, Gate}
use Rattle.orc_rest.specs.Reuse.{given, is_free_step, is_gate_take, reused, rows_out}
use Rattle.std.specs.Prelude.{◌&&◌, ◌==◌}
use Rattle.orc_core.specs.declared.records.Agent.{Agent}
use Rattle.orc_core.specs.Sums.{sum_below, count_below}
use Rattle.orc_core.proofs.Within.{may_within}
use Rattle.orc_core.specs.Actions.{action_of}
use Rattle.orc_words.specs.Places.{IsWithin}
use Rattle.orc_core.specs.declared.ops.Op.TheVariants.{Free, GateTake}

life_step : (b : Bounds) (z : World) (a : ℕ) (op : Op) (r : ℕ) → LawfulStep b z a op → LivesFit b z
    → z.memory (Gate r) / 2 + bit (takes op (z.seats a) (read_by z a op) r) ≡ (step_world z a op).memory (Gate r) / 2
life_step b z a op r p s = cases (takes op (z.seats a) (read_by z a op) r) refl (gate_change b z a op r p s)
  where
    untaken : takes op (z.seats a) (read_by z a op) r ≡ false → out (z.memory (Gate r)) ≡ 0 → out ((step_world z a op).memory (Gate r)) ≡ 1 → ⊥
    untaken e i o = freed_or (frees op r) refl
      where
        zero_one : {n : ℕ} → n ≡ 0 → n ≡ 1 → ⊥
        zero_one g h = omega arith

        freed_or : (u : Bool) → frees op r ≡ u → ⊥
        freed_or true g = zero_one i (freed b z a op r p g).gone.is_out
        freed_or false g =
            ⊎_elim (λ old. zero_one i old) (λ new. false≢true (sym e ∙ new)) (gate_source b (z.memory Enrolled) a op (z.seats a) z.memory r p.fits g o)

    cases : (t : Bool) → takes op (z.seats a) (read_by z a op) r ≡ t
        → (((step_world z a op).memory (Gate r) ≡ z.memory (Gate r)) ⊎
        ((z.memory (Gate r) % 2 ≡ 0) × ((step_world z a op).memory (Gate r) ≡ z.memory (Gate r) + 3) × (z.memory (Gate r) / 2 < b.limit)) ⊎
        ((z.memory (Gate r) % 2 ≡ 1) × ((step_world z a op).memory (Gate r) + 1 ≡ z.memory (Gate r))))
        → z.memory (Gate r) / 2 + bit t ≡ (step_world z a op).memory (Gate r) / 2
    cases true e g =
        let i = takes_free op (z.seats a) z.memory a r e in
        let j = taken_out op (z.seats a) z.memory a r e in
        made i j g
      where
        made : out (z.memory (Gate r)) ≡ 0 → out ((step_world z a op).memory (Gate r)) ≡ 1
            → (((step_world z a op).memory (Gate r) ≡ z.memory (Gate r)) ⊎
            ((z.memory (Gate r) % 2 ≡ 0) × ((step_world z a op).memory (Gate r) ≡ z.memory (Gate r) + 3) × (z.memory (Gate r) / 2 < b.limit)) ⊎
            ((z.memory (Gate r) % 2 ≡ 1) × ((step_world z a op).memory (Gate r) + 1 ≡ z.memory (Gate r))))
            → z.memory (Gate r) / 2 + 1 ≡ (step_world z a op).memory (Gate r) / 2
        made i j (inl k) = absurd (omega arith)
        made i j (inr (inl k)) = let u = k.0 in let v = k.1 in omega arith
        made i j (inr (inr k)) = let u = k.0 in let v = k.1 in absurd (omega arith)
    cases false e (inl k) = omega arith
    cases false e (inr (inl k)) = let u = k.0 in let v = k.1 in absurd (untaken e u (omega arith))
    cases false e (inr (inr k)) = let u = k.0 in let v = k.1 in omega arith

run_life : (m : Machine) (steps : List (ℕ × Op)) (r : ℕ) → r < m.bounds.rows → Full m → AllFits m.bounds (world_of m) → IsLawful m steps
    → (world_of m).memory (Gate r) / 2 + times_taken m steps r ≡ (world_of (run m steps)).memory (Gate r) / 2
run_life m [] r h w s l = omega arith
run_life m (x ∷ xs) r h w s l =
    let p = allowed_step m x.0 x.1 w s l.0 in
    let e = world_step m x.0 x.1 w.words w.agents l.0 in
    let i =
    run_life (step m x.0 x.1) xs r h (full_step m x.0 x.1 w) (subst (λ z. AllFits m.bounds z) (sym e) (all_step m.bounds (world_of m) x.0 x.1 p s)) l.1 in
    let o = life_step m.bounds (world_of m) x.0 x.1 r p s.lives in
    let t = ap bit (take_answer m x.0 x.1 r (read_shown m x.0 x.1 l.0)) in
    let c = ap (λ z. z.memory (Gate r) / 2) e in
    omega arith

-- a row's life is how often it was taken
pub life_is_taken : (b : Bounds) (steps : List (ℕ × Op)) (r : ℕ) → IsShape b → IsLawful (new_machine b) steps → r < b.rows
    → (gate_of (word_in (run (new_machine b) steps) (Gate r))).life ≡ times_taken (new_machine b) steps r
life_is_taken b steps r shape l h =
    let k = run_life (new_machine b) steps r h (full_first b shape) (all_first b) l in
    let z = zero_first b (Gate r) refl in
    let w = word_shown (run (new_machine b) steps) (Gate r) (subst (λ (c : Bounds). r < c.rows) (sym (run_bounds (new_machine b) steps)) h) in
    ap (λ n. n / 2) (sym w) ∙ omega arith

both : {i j k n : ℕ} → i ≡ j → k ≡ n → i + k ≡ j + n
both e f = omega arith

-- a step is counted with one row, if it takes or frees one
taken_once : (b : Bounds) (a : ℕ) (op : Op) (d : Agent) (t : Bool) → IsWithin b (action_of a op d).word
    → sum_below b.rows (λ r. bit (is_take_of op r && t)) ≡ bit (is_gate_take op && t)
taken_once b a (GateTake q) d true h =
    sum_same b.rows (λ r. bit ((q == r) && true)) (λ r. bit (q == r)) (λ r l. ap bit (and-true (q == r))) ∙ sum_point b.rows q h
taken_once b a (GateTake q) d false h = sum_zero b.rows (λ r. bit ((q == r) && false)) (λ r. ap bit (and-false (q == r)))
taken_once b a op d t h = sum_zero b.rows (λ r. 0) (λ r. refl)

freed_once : (b : Bounds) (a : ℕ) (op : Op) (d : Agent) → IsWithin b (action_of a op d).word
    → sum_below b.rows (λ r. bit (frees op r)) ≡ bit (is_free_step op)
freed_once b a (Free q) d h = sum_point b.rows q h
freed_once b a op d h = sum_zero b.rows (λ r. 0) (λ r. refl)

taken_in_all : (m : Machine) (steps : List (ℕ × Op)) → IsLawful m steps → sum_below m.bounds.rows (times_taken m steps) ≡ given m steps
taken_in_all m [] l = sum_zero m.bounds.rows (times_taken m []) (λ r. refl)
taken_in_all m (s ∷ ss) l =
    let within = may_within m.bounds (word_in m Enrolled) s.0 s.1 (record_at m s.0) l.0 in
    let one = taken_once m.bounds s.0 s.1 (record_at m s.0) (answer m s.0 s.1 == 1) within in
    let more = taken_in_all (step m s.0 s.1) ss l.1 in
    sum_add m.bounds.rows (λ r. bit (is_take_of s.1 r && (answer m s.0 s.1 == 1))) (times_taken (step m s.0 s.1) ss) ∙ both one more

freed_in_all : (m : Machine) (steps : List (ℕ × Op)) → IsLawful m steps → sum_below m.bounds.rows (times_freed steps) ≡ reused steps
freed_in_all m [] l = sum_zero m.bounds.rows (times_freed []) (λ r. refl)
freed_in_all m (s ∷ ss) l =
    let within = may_within m.bounds (word_in m Enrolled) s.0 s.1 (record_at m s.0) l.0 in
    let one = freed_once m.bounds s.0 s.1 (record_at m s.0) within in
    let more = freed_in_all (step m s.0 s.1) ss l.1 in
    sum_add m.bounds.rows (λ r. bit (frees s.1 r)) (times_freed ss) ∙ both one more

pub given_is_lives : (b : Bounds) (steps : List (ℕ × Op)) → IsShape b → IsLawful (new_machine b) steps
    → given (new_machine b) steps ≡ sum_below b.rows (λ r. (gate_of (word_in (run (new_machine b) steps) (Gate r))).life)
given_is_lives b steps shape l =
    sym (taken_in_all (new_machine b) steps l)
    ∙ sum_same b.rows (times_taken (new_machine b) steps) (λ r. (gate_of (word_in (run (new_machine b) steps) (Gate r))).life)
    (λ r h. sym (life_is_taken b steps r shape l h))

pub given_told : (b : Bounds) (steps : List (ℕ × Op)) → IsShape b → IsLawful (new_machine b) steps
    → given (new_machine b) steps ≡ reused steps + rows_out (run (new_machine b) steps)
given_told b steps shape l =
    let m = run (new_machine b) steps in
    let each = sum_same b.rows (times_taken (new_machine b) steps) (λ r. times_freed steps r + bit (is_out m r)) (λ r h. lives_counted b steps r shape h l) in
    let parts = sum_add b.rows (times_freed steps) (λ r. bit (is_out m r)) in
    let taken = taken_in_all (new_machine b) steps l in
    let freed = freed_in_all (new_machine b) steps l in
    sym taken ∙ (each ∙ (parts ∙ both freed (ap (λ (c : Bounds). count_below c.rows (is_out m)) (sym (run_bounds (new_machine b) steps)))))
