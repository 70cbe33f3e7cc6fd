-- A seat after a step is the stepping agent's new record, or what it was.
use Rattle.std.proofs.Common.{Bool, cond, false, inl, inr, refl, sym, true, ℕ, ◌∙◌, ◌≡◌, ◌≢◌, ◌⊎◌}
use Rattle.std.proofs.lemmas.Bool.{eq-eqb, eqb-false, eqb-true, false≢true, ne_eqb}
use Rattle.std.specs.Prelude.{◌==◌, ◌||◌}
use Rattle.orc_core.specs.declared.records.Agent.{Agent}
use Rattle.orc_sound.proofs.World.{seat}

pub seat_split : (P : Agent → Type 0) (seats : ℕ → Agent) (a x : ℕ) (d : Agent) → P (seat seats a d x) → ((x ≡ a) × P d) ⊎ ((x ≢ a) × P (seats x))
seat_split P seats a x d h = cases (x == a) refl h
  where
    cases : (t : Bool) → (x == a) ≡ t → P (cond t d (seats x)) → ((x ≡ a) × P d) ⊎ ((x ≢ a) × P (seats x))
    cases true e h = inl (eqb-true x a e, h)
    cases false e h = inr (eqb-false x a e, h)

-- what both have, the seat has
pub seat_join : (P : Agent → Type 0) (seats : ℕ → Agent) (a x : ℕ) (d : Agent) → P d → P (seats x) → P (seat seats a d x)
seat_join P seats a x d h k = cases (x == a)
  where
    cases : (t : Bool) → P (cond t d (seats x))
    cases true = h
    cases false = k

pub seat_same : (seats : ℕ → Agent) (a : ℕ) (d : Agent) → seat seats a d a ≡ d
seat_same seats a d = rw (eq-eqb a a refl)

pub seat_other : (seats : ℕ → Agent) (a x : ℕ) (d : Agent) → x ≢ a → seat seats a d x ≡ seats x
seat_other seats a x d n = rw (ne_eqb x a n)

pub not_true : (b : Bool) → (b ≡ true → ⊥) → b ≡ false
not_true true h = absurd (h refl)
not_true false h = refl

pub both_ways : (b : Bool) → b ≡ true → b ≡ false → ⊥
both_ways b h k = false≢true (sym k ∙ h)

pub either : (a b : Bool) → (a || b) ≡ true → (a ≡ true) ⊎ (b ≡ true)
either true b h = inl refl
either false b h = inr h
