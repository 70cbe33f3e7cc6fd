-- The fields of a record, one by one.
use Rattle.std.proofs.Common.{◌≡◌, List, [], ◌∷◌, ℕ, zero, suc, refl, arith, length}
use Rattle.std.specs.declared.option.Option.{Option}
use Rattle.std.specs.declared.option.Option.TheVariants.{None, Some}
use Rattle.csv.specs.Records.{field_at}
use Rattle.orc_job_files.specs.RecordFiles.{field}

pub field-some : (fields : List (List ℕ)) (i : ℕ) (text : List ℕ) → Some text ≡ field_at fields i → text ≡ field fields i
unfolding field_at
field-some [] i text e = cc e
field-some (f ∷ fs) zero text e = cc e
field-some (f ∷ fs) (suc i) text e = field-some fs i text e

pub field-none : (fields : List (List ℕ)) (i : ℕ) → ◌≡◌ {A = Option (List ℕ)} None (field_at fields i) → [] ≡ field fields i
unfolding field_at
field-none [] i e = refl
field-none (f ∷ fs) zero e = cc e
field-none (f ∷ fs) (suc i) e = field-none fs i e

pub two-fields : (fields : List (List ℕ)) (a b : List ℕ) → length fields ≡ 2 → field fields 0 ≡ a → field fields 1 ≡ b → fields ≡ a ∷ b ∷ []
two-fields [] a b n p q = absurd (omega (arith, n))
two-fields (x ∷ []) a b n p q = absurd (omega (arith, n))
two-fields (x ∷ y ∷ []) a b n p q = cc
two-fields (x ∷ y ∷ z ∷ rest) a b n p q = absurd (omega (arith, n))
