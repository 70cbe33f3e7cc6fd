-- No record has neither a cause nor a line.
use Rattle.std.proofs.Common.{◌≡◌, ◌≢◌, ◌<◌, ◌^◌, ◌∙◌, sym, Bool, true, false, All, IsUtf8, List, [], ◌∷◌, ℕ, suc, arith, codes, inl, inr, length, refl, subst}
use Rattle.std.specs.Fmt.{decimal}
use Rattle.orc_job_files.proofs.Fields.{two-fields}
use Rattle.orc_job_files.proofs.FileLaws.{none-applies, whether}
use Rattle.orc_job_files.specs.JobGrammar.{Applies, HasCause, rank_of, record_of}
use Rattle.orc_jobs.specs.Line.{IsLine, TakesText, operation_word, job_line}
use Rattle.orc_job_files.specs.RecordFiles.{field}
use Rattle.orc_job_files.specs.declared.cause.Cause.{Cause}
use Rattle.orc_job_files.specs.declared.cause.Cause.TheVariants as cause
use Rattle.orc_jobs.specs.declared.line.Job.{Job}
use Rattle.orc_jobs.specs.declared.line.Job.TheVariants as job
use Rattle.orc_jobs.specs.declared.line.Line.{Line}
use Rattle.orc_jobs.specs.declared.line.Line.TheVariants as line

four-fields : (fields : List (List ℕ)) (a b c d : List ℕ) → length fields ≡ 4 → field fields 0 ≡ a → field fields 1 ≡ b → field fields 2 ≡ c
    → field fields 3 ≡ d
    → fields ≡ a ∷ b ∷ c ∷ d ∷ []
four-fields [] a b c d n p q r s = absurd (omega (arith, n))
four-fields (x ∷ []) a b c d n p q r s = absurd (omega (arith, n))
four-fields (x ∷ y ∷ []) a b c d n p q r s = absurd (omega (arith, n))
four-fields (x ∷ y ∷ z ∷ []) a b c d n p q r s = absurd (omega (arith, n))
four-fields (x ∷ y ∷ z ∷ w ∷ []) a b c d n p q r s = cc
four-fields (x ∷ y ∷ z ∷ w ∷ v ∷ rest) a b c d n p q r s = absurd (omega (arith, n))

-- a record of four fields that spell a job
pub job_spelled : (fields : List (List ℕ)) (verb : List ℕ) (id : ℕ) (op : Job) (text : List ℕ) → length fields ≡ 4 → field fields 0 ≡ verb → id < 2 ^ 32
    → field fields 1 ≡ decimal id → field fields 2 ≡ operation_word op → field fields 3 ≡ text → All IsUtf8 fields → TakesText op (field fields 3)
    → (fields ≡ verb ∷ decimal id ∷ operation_word op ∷ text ∷ []) × ((id < 2 ^ 32) × IsUtf8 text × TakesText op text)
job_spelled fields verb id op text four verb_is small id_is op_is text_is all fits = (
  four-fields fields verb (decimal id) (operation_word op) text four verb_is id_is op_is text_is,
  (small, subst IsUtf8 text_is (all 3 [] (omega (arith, four))), subst (λ (t : List ℕ). TakesText op t) text_is fits),
)

-- a record of which no cause applies and that stands for no line
record Neither (fields : List (List ℕ)) : Type 0 where
  causes : (why : Cause) → ¬ Applies why fields
  lines : (l : Line) → IsLine l → fields ≢ record_of l

no-drop : (fields : List (List ℕ)) → Neither fields → field fields 0 ≢ codes "drop"
no-drop fields none drop = whether (length fields ≡ 2) (λ o. elim o [
  | inl two ↦ none.causes cause.Id (λ id. none.lines (line.Drop id.0) id.1 (two-fields fields (codes "drop") (decimal id.0) two drop id.2))
  | inr other ↦ none.causes cause.Fields (inl (drop, other))
])

-- the text of a job fits its operation
takes : (fields : List (List ℕ)) (op : Job) → Neither fields → field fields 0 ≢ codes "drop" → field fields 2 ≡ operation_word op → ¬ ¬ TakesText op (field fields 3)
takes fields job.Bytes none job word k = k tt
takes fields job.Words none job word k = k tt
takes fields job.Sum none job word k = none.causes cause.Sum (job, word, k)

-- no line that posts a job has this first field
no-job : (fields : List (List ℕ)) (verb : List ℕ) (rush : Bool) → Neither fields → All IsUtf8 fields → field fields 0 ≢ codes "drop"
    → ((id : ℕ) (op : Job) (text : List ℕ) → record_of (job_line rush id op text) ≡ verb ∷ decimal id ∷ operation_word op ∷ text ∷ [])
    → ((id : ℕ) (op : Job) (text : List ℕ) → (id < 2 ^ 32) × IsUtf8 text × TakesText op text → IsLine (job_line rush id op text))
    → field fields 0 ≢ verb
no-job fields verb rush none text no_drop spelled is_line is = whether (length fields ≡ 4) (λ o. elim o [
  | inl four ↦
      none.causes cause.Id (λ id. none.causes cause.Op (
        no_drop,
        λ op. takes fields op.0 none no_drop op.1 (λ fits.
            none.lines (job_line rush id.0 op.0 (field fields 3)) (is_line id.0 op.0 (field fields 3) (id.1, text 3 [] (omega (arith, four)), fits))
            (four-fields fields verb (decimal id.0) (operation_word op.0) (field fields 3) four is id.2 op.1 refl ∙ sym (spelled id.0 op.0 (field fields 3)))),
      ))
  | inr other ↦ none.causes cause.Fields (inr (no_drop, other))
])

not-neither : (fields : List (List ℕ)) → ¬ Neither fields
not-neither fields none = none.causes cause.Utf8 (λ text.
    let no_drop = no-drop fields none in
    none.causes cause.Verb (
      no-job fields (codes "post") false none text no_drop (λ id op t. refl) (λ id op t h. h),
      no-job fields (codes "rush") true none text no_drop (λ id op t. refl) (λ id op t h. h),
      no_drop,
    ))

pub cause-or-line : (fields : List (List ℕ)) → ((why : Cause) → ¬ HasCause fields why) → ¬ ((l : Line) → IsLine l → fields ≢ record_of l)
cause-or-line fields none lines = not-neither fields (record { causes = λ why. none-applies Applies rank_of fields none (suc (rank_of why)) why (omega arith); lines = lines })
