-- No record has neither a cause nor a line.
use Rattle.std.proofs.Common.{◌≡◌, ◌≢◌, ◌<◌, ◌^◌, List, [], ◌∷◌, ℕ, suc, arith, codes, inl, inr, length}
use Rattle.std.specs.Fmt.{decimal}
use Rattle.orc_job_files.proofs.Fields.{two-fields}
use Rattle.orc_job_files.proofs.FileLaws.{none-applies, whether}
use Rattle.orc_job_files.specs.RecordFiles.{field}
use Rattle.orc_watch.specs.WatchGrammar.{Applies, HasCause, IsLine, rank_of, record_of}
use Rattle.orc_watch.specs.declared.cause.WatchCause.{WatchCause}
use Rattle.orc_watch.specs.declared.cause.WatchCause.TheVariants as cause
use Rattle.orc_watch.specs.declared.line.WatchLine.{WatchLine}
use Rattle.orc_watch.specs.declared.line.WatchLine.TheVariants as line

one-field : (fields : List (List ℕ)) (a : List ℕ) → length fields ≡ 1 → field fields 0 ≡ a → fields ≡ a ∷ []
one-field [] a n p = absurd (omega (arith, n))
one-field (x ∷ []) a n p = cc
one-field (x ∷ y ∷ rest) a n p = absurd (omega (arith, n))

three-fields : (fields : List (List ℕ)) (a b c : List ℕ) → length fields ≡ 3 → field fields 0 ≡ a → field fields 1 ≡ b → field fields 2 ≡ c
    → fields ≡ a ∷ b ∷ c ∷ []
three-fields [] a b c n p q r = absurd (omega (arith, n))
three-fields (x ∷ []) a b c n p q r = absurd (omega (arith, n))
three-fields (x ∷ y ∷ []) a b c n p q r = absurd (omega (arith, n))
three-fields (x ∷ y ∷ z ∷ []) a b c n p q r = cc
three-fields (x ∷ y ∷ z ∷ w ∷ rest) a b c n p q r = absurd (omega (arith, n))

-- a record of which no cause applies and that stands for no line
record Neither (fields : List (List ℕ)) : Type 0 where
  causes : (why : WatchCause) → ¬ Applies why fields
  lines : (l : WatchLine) → IsLine l → fields ≢ record_of l

no-see : (fields : List (List ℕ)) → Neither fields → field fields 0 ≢ codes "see"
no-see fields none see = whether (length fields ≡ 1) (λ o. elim o [
  | inl one ↦ none.lines line.See tt (one-field fields (codes "see") one see)
  | inr other ↦ none.causes cause.Fields (inl (see, other))
])

no-both : (fields : List (List ℕ)) → Neither fields → field fields 0 ≢ codes "both"
no-both fields none both = whether (length fields ≡ 3) (λ o. elim o [
  | inl three ↦ none.causes cause.Value (inl (
    no-see fields none,
    λ m. none.causes cause.Value (inr (
      both,
      λ n.
          none.lines (line.Both m.0 n.0) (m.1, n.1) (three-fields fields (codes "both") (decimal m.0) (decimal n.0) three both m.2 n.2),
    )),
  ))
  | inr other ↦ none.causes cause.Fields (inr (inl (both, other)))
])

-- no line with one value has this first field
no-value : (fields : List (List ℕ)) (verb : List ℕ) → Neither fields → ((n : ℕ) → n < 2 ^ 32 → fields ≢ verb ∷ decimal n ∷ []) → field fields 0 ≢ verb
no-value fields verb none line is = whether (length fields ≡ 2) (λ o. elim o [
  | inl two ↦ none.causes cause.Value (inl (no-see fields none, λ n. line n.0 n.1 (two-fields fields verb (decimal n.0) two is n.2)))
  | inr other ↦ none.causes cause.Fields (inr (inr (no-see fields none, no-both fields none, other)))
])

not-neither : (fields : List (List ℕ)) → ¬ Neither fields
not-neither fields none = none.causes cause.Verb (
  no-value fields (codes "left") none (λ n h. none.lines (line.Left n) h),
  no-value fields (codes "right") none (λ n h. none.lines (line.Right n) h),
  no-both fields none,
  no-see fields none,
)

pub cause-or-line : (fields : List (List ℕ)) → ((why : WatchCause) → ¬ HasCause fields why) → ¬ ((l : WatchLine) → IsLine l → fields ≢ record_of l)
cause-or-line fields none lines = not-neither fields (record { causes = λ why. none-applies Applies rank_of fields none (suc (rank_of why)) why (omega arith); lines = lines })
