-- A record has one cause: the first that applies to it.
use Rattle.std.proofs.Common.{◌≡◌, ◌∙◌, ◌<◌, ◌⊎◌, List, ℕ, zero, suc, refl, arith, ap, sym, inl, inr}
use Rattle.orc_job_files.specs.RecordFiles.{HasFirst}

-- two numbers in order
pub in_order : (a b : ℕ) → (a < b) ⊎ ((a ≡ b) ⊎ (b < a))
in_order zero zero = inr (inl refl)
in_order zero (suc b) = inl (omega arith)
in_order (suc a) zero = inr (inr (omega arith))
in_order (suc a) (suc b) = elim (in_order a b) [
  | inl lt ↦ inl (omega arith)
  | inr more ↦ elim more [ inl e ↦ inr (inl (ap suc e)) | inr gt ↦ inr (inr (omega arith)) ]
]

module _ {C : Type 0} (Applies : C → List (List ℕ) → Type 0) (rank_of : C → ℕ) where
  -- a record has one cause, where each is known by its rank
  pub one-cause : (cause_at : ℕ → C) → ((why : C) → cause_at (rank_of why) ≡ why) → (fields : List (List ℕ)) (a b : C)
      → HasFirst Applies rank_of fields a → HasFirst Applies rank_of fields b → a ≡ b
  one-cause cause_at ranked fields a b h k = elim (in_order (rank_of a) (rank_of b)) [
    | inl lt ↦ absurd (k.first a lt h.applies)
    | inr more ↦ elim more [ inl e ↦ sym (ranked a) ∙ ap cause_at e ∙ ranked b | inr gt ↦ absurd (h.first b gt k.applies) ]
  ]
