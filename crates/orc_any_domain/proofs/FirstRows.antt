-- With which row the search of a new pass begins.
use Rattle.std.proofs.Common.{All, arith, length, subst, ℕ, ◌%◌, ◌*◌, ◌<◌, ◌∙◌, ◌≡◌, List}
use Rattle.std.proofs.Math.Nat.{div-lt_iff_lt-mul, mod-eq_of_lt, mul_comm, mul-lt-mul_of_pos_right}
use Rattle.std.specs.Prelude.{slice_index_or}
use Rattle.orc_any_domain.specs.Turns.{first_row}
use Rattle.orc_words.specs.Bounds.{Bounds}

first_low : (b : Bounds) (agent : ℕ) → agent < b.agents → 0 < b.rows → first_row b agent < b.rows
first_low b agent h some =
    let less : agent * b.rows < b.agents * b.rows = mul-lt-mul_of_pos_right h some in
    (div-lt_iff_lt-mul (omega (arith, h))).1 (subst (λ n. agent * b.rows < n) (mul_comm b.agents b.rows) less)

-- passes of all agents, in order, each of which begins with its agent's row
pub first_rows : {P : Type 0} (b : Bounds) (next agent : P → ℕ) (ps : List P) → All (λ p. next p ≡ first_row b (agent p) % b.rows) ps
    → ((i : ℕ) (p : P) → i < length ps → agent (slice_index_or ps i p) ≡ i) → length ps ≡ b.agents → 0 < b.rows
    → (i : ℕ) (p : P) → i < length ps → next (slice_index_or ps i p) ≡ first_row b i
first_rows b next agent ps begins numbered many some i p l =
    subst (λ n. next (slice_index_or ps i p) ≡ first_row b n % b.rows) (numbered i p l) (begins i p l)
    ∙ mod-eq_of_lt (first_low b i (subst (λ n. i < n) many l) some)
