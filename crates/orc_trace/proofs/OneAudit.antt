-- A trace has one audit, and bytes with an audit are refused for nothing.
use Rattle.std.proofs.Common.{Bool, List, ap₂, arith, false, inl, inr, length, refl, subst, sym, true, ℕ, Result, Ok, Err, ◌<◌, ◌∙◌, ◌≡◌, ◌≢◌, ◌≤◌, ◌⊎◌}
use Rattle.std.proofs.lemmas.Bool.{ltb-true}
use Rattle.std.specs.Prelude.{IfErr, IfOk, MatchResult, None, Option, Some, nat_lt}
use Rattle.orc_words.specs.Bounds.{Bounds}
use Rattle.orc_core.specs.Counts.{census_of}
use Rattle.orc_core.specs.Machine.{new_machine}
use Rattle.orc_core.specs.Runs.{run}
use Rattle.orc_core.specs.declared.ops.Op.{Op}
use Rattle.orc_trace.proofs.Unique.{refusal-unique, replay-not_refused, steps-unique}
use Rattle.orc_trace.proofs.Verdicts.{memory-or}
use Rattle.orc_trace.specs.Audit.{Audits, IsAudit, IsFirstLeak, IsWorst, Leaks, after_steps}
use Rattle.orc_trace.specs.Replay.{IsReplay, RefusesTrace}
use Rattle.orc_trace.specs.declared.answers.Audit.{Audit}
use Rattle.orc_trace.specs.declared.answers.Leak.{Leak}
use Rattle.orc_trace.specs.declared.answers.Replayed.{Replayed}
use Rattle.orc_trace.specs.declared.answers.TraceFault.{TraceFault}
use Rattle.orc_trace.specs.declared.answers.TraceFault.TheVariants as fault

-- neither number is below the other
same_number : (x y : ℕ) → (x < y → ⊥) → (y < x → ⊥) → x ≡ y
same_number x y h k = cases (nat_lt x y) (nat_lt y x) refl refl
  where
    cases : (t u : Bool) → nat_lt x y ≡ t → nat_lt y x ≡ u → x ≡ y
    cases true u e f = absurd (h (ltb-true x y e))
    cases false true e f = absurd (k (ltb-true y x f))
    cases false false e f = let g : y ≤ x = grind arith in let i : x ≤ y = grind arith in omega (arith, g, i)

one_most : (b : Bounds) (steps : List (ℕ × Op)) (m n i j : ℕ) → IsWorst b steps m i → IsWorst b steps n j → m ≤ n
one_most b steps m n i j h k = let e = h.there in let l = k.greatest i h.within in omega (arith, e, l)

no_sooner : (b : Bounds) (steps : List (ℕ × Op)) (m n i j : ℕ) → IsWorst b steps m i → IsWorst b steps n j → i < j → ⊥
no_sooner b steps m n i j h k l =
    let e = h.there in
    let less = k.first i l in
    let most = one_most b steps n m j i k h in
    absurd (omega (arith, e, less, most))

one_worst : (b : Bounds) (steps : List (ℕ × Op)) (m n i j : ℕ) → IsWorst b steps m i → IsWorst b steps n j → (m ≡ n) × (i ≡ j)
one_worst b steps m n i j h k =
    let up = one_most b steps m n i j h k in
    let down = one_most b steps n m j i k h in
    (omega (arith, up, down), same_number i j (no_sooner b steps m n i j h k) (no_sooner b steps n m j i k h))

one_leak : (b : Bounds) (steps : List (ℕ × Op)) (o p : Option Leak) → IsFirstLeak b steps o → IsFirstLeak b steps p → o ≡ p
one_leak b steps None None h k = refl
one_leak b steps None (Some l) h k = absurd (h l.after l.row k.within k.leaks)
one_leak b steps (Some l) None h k = absurd (k l.after l.row h.within h.leaks)
one_leak b steps (Some l) (Some f) h k =
    let make : ℕ → ℕ → Option Leak = λ a r. Some (record { after = a; row = r }) in
    let same : make l.after l.row ≡ make f.after f.row = ap₂ make then row in
    same
  where
    then : l.after ≡ f.after
    then = same_number l.after f.after (λ e. k.sooner l.after l.row e h.leaks) (λ e. h.sooner f.after f.row e k.leaks)

    row : l.row ≡ f.row
    row =
        same_number l.row f.row (λ e. k.lower l.row e (subst (λ (n : ℕ). Leaks (after_steps b steps n) l.row) then h.leaks))
        (λ e. h.lower f.row e (subst (λ (n : ℕ). Leaks (after_steps b steps n) f.row) (sym then) k.leaks))

one_audit : (b : Bounds) (steps : List (ℕ × Op)) (x y : Audit) → Audits b steps x → Audits b steps y → x ≡ y
one_audit b steps x y h k =
    let number : x.steps ≡ y.steps = h.number ∙ sym k.number in
    let worst = one_worst b steps x.most y.most x.after y.after h.worst k.worst in
    let most : x.most ≡ y.most = worst.0 in
    let after : x.after ≡ y.after = worst.1 in
    let lives : x.lives ≡ y.lives = h.lives ∙ sym k.lives in
    let leak : x.leak ≡ y.leak = one_leak b steps x.leak y.leak h.leak k.leak in
    let make : ℕ → ℕ → ℕ → List ℕ → Option Leak → Audit = λ s m a l f. record { steps = s; most = m; after = a; lives = l; leak = f } in
    let same : make x.steps x.most x.after x.lives x.leak ≡ make y.steps y.most y.after y.lives y.leak = cc (number, most, after, lives, leak) in
    same

-- a trace that is audited is one that is replayed
played : (bytes : List ℕ) (a : Audit) → IsAudit bytes a → (r : Replayed) × IsReplay bytes r
played bytes a h =
    let r : Replayed = record { steps = length h.2; census = census_of (run (new_machine h.0) h.2) } in
    (r, (h.0, h.1, h.2, h.3, h.4, refl))

audit-unique : (bytes : List ℕ) (x y : Audit) → IsAudit bytes x → IsAudit bytes y → x ≡ y
unfolding played
audit-unique bytes x y h k =
    let p = played bytes x h in
    let q = played bytes y k in
    let same = steps-unique bytes p.0 q.0 p.1 q.1 in
    one_audit k.0 k.2 x y (subst (λ (z : List (ℕ × Op)). Audits k.0 z x) same.1 (subst (λ (z : Bounds). Audits z h.2 x) same.0 h.5)) k.5

audit-not_refused : (bytes : List ℕ) (a : Audit) (f : TraceFault) → f ≢ fault.NoMemory → IsAudit bytes a → RefusesTrace bytes f → ⊥
audit-not_refused bytes a f other h k = let p = played bytes a h in replay-not_refused bytes p.0 f other p.1 k

pub only-audit : (bytes : List ℕ) (r : Result Audit TraceFault) → IfOk r (IsAudit bytes) → IfErr r (RefusesTrace bytes) → (a : Audit) → IsAudit bytes a
    → MatchResult r (λ x. x ≡ a) (λ e. e ≡ fault.NoMemory)
only-audit bytes (Ok x) ok err a h = audit-unique bytes x a ok h
only-audit bytes (Err e) ok err a h = elim (memory-or e) [
  | inl memory ↦ memory
  | inr other ↦ absurd (audit-not_refused bytes a e other h err)
]

pub only-refusal : (bytes : List ℕ) (r : Result Audit TraceFault) → IfOk r (IsAudit bytes) → IfErr r (RefusesTrace bytes) → (why : TraceFault)
    → why ≢ fault.NoMemory → RefusesTrace bytes why → MatchResult r (λ x. ⊥) (λ e. (e ≡ why) ⊎ (e ≡ fault.NoMemory))
only-refusal bytes (Ok x) ok err why real h = audit-not_refused bytes x why real ok h
only-refusal bytes (Err e) ok err why real h = elim (memory-or e) [
  | inl memory ↦ inr memory
  | inr other ↦ inl (refusal-unique bytes e why other real err h)
]
