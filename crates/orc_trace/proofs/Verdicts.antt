-- What an answer that is right leaves of all others.
use Rattle.std.proofs.Common.{◌≡◌, ◌≢◌, ℕ, ◌⊎◌, inl, inr, List, Result, Ok, Err, refl}
use Rattle.std.specs.Prelude.{IfErr, IfOk, MatchResult}
use Rattle.orc_trace.specs.declared.answers.Replayed.{Replayed}
use Rattle.orc_trace.specs.declared.answers.TraceFault.{TraceFault}
use Rattle.orc_trace.specs.declared.answers.TraceFault.TheVariants as fault
use Rattle.orc_trace.specs.Replay.{IsReplay, RefusesTrace}
use Rattle.orc_trace.proofs.Unique.{refusal-unique, replay-not_refused, replay-unique}

-- no memory, or another fault
pub memory-or : (f : TraceFault) → (f ≡ fault.NoMemory) ⊎ (f ≢ fault.NoMemory)
memory-or fault.NoMemory = inl refl
memory-or (fault.Shape w) = inr (λ e. cc e)
memory-or (fault.Unreadable n) = inr (λ e. cc e)
memory-or (fault.NotAllowed n) = inr (λ e. cc e)

pub only-answer : (bytes : List ℕ) (r : Result Replayed TraceFault) → IfOk r (IsReplay bytes) → IfErr r (RefusesTrace bytes) → (played : Replayed)
    → IsReplay bytes played
    → MatchResult r (λ x. x ≡ played) (λ e. e ≡ fault.NoMemory)
only-answer bytes (Ok x) ok err played h = replay-unique bytes x played ok h
only-answer bytes (Err e) ok err played h = elim (memory-or e) [
  | inl memory ↦ memory
  | inr other ↦ absurd (replay-not_refused bytes played e other h err)
]

pub only-fault : (bytes : List ℕ) (r : Result Replayed TraceFault) → IfOk r (IsReplay bytes) → IfErr r (RefusesTrace bytes) → (why : TraceFault)
    → why ≢ fault.NoMemory → RefusesTrace bytes why
    → MatchResult r (λ x. ⊥) (λ e. (e ≡ why) ⊎ (e ≡ fault.NoMemory))
only-fault bytes (Ok x) ok err why real h = replay-not_refused bytes x why real ok h
only-fault bytes (Err e) ok err why real h = elim (memory-or e) [
  | inl memory ↦ inr memory
  | inr other ↦ inl (refusal-unique bytes e why other real err h)
]
