-- The next agent has eight slots too.
use Rattle.std.proofs.Common.{◌≡◌, ℕ, ◌+◌, ◌<◌, Bool, true, false, arith, length, refl}
use Rattle.std.specs.Prelude.{◌==◌}
use Rattle.std.proofs.lemmas.Bool.{eqb-true, eqb-false}
use Rattle.orc_core.specs.Machine.{record_at}
use Rattle.orc_sound.proofs.soundness.all_have_eight_slots.Goals as goal

next_too : (P : ℕ → Type 0) (n : ℕ) → ((a : ℕ) → a < n → P a) → P n → (a : ℕ) → a < n + 1 → P a
next_too P n h k a l = cases (a == n) refl
  where
    cases : (t : Bool) → (a == n) ≡ t → P a
    cases true e = rw (eqb-true a n e) k
    cases false e = let d = eqb-false a n e in h a (omega arith)

pub loop-agent-preserved : goal.loop-agent-preserved
loop-agent-preserved c = next_too (λ a. length (record_at c.args.state.now a).slots ≡ 8) c.loop-agent.agent c.loop-agent.invariant c.has_eight_slots.ensures
