-- The answer to a file whose lines are worked through, or which is refused.
use Rattle.std.proofs.Common.{◌≡◌, ◌∙◌, ◌⊎◌, IfOk, List, Ok, Result, [], ap, inl, inr, subst, ℕ}
use Rattle.std.proofs.lemmas.Result.{IfOk-weaker}
use Rattle.orc_job_files.proofs.FileLaws.{AreDetermined, not-both, not-few, not-read, one-refusal}
use Rattle.orc_job_files.specs.OneRecord.{RefusesFile}
use Rattle.orc_job_files.specs.RecordFiles.{IsFile}
use Rattle.orc_job_files.specs.declared.records.FileRefused.{FileRefused}
use Rattle.orc_job_files.specs.declared.records.FileRefused.TheVariants as fault
use Rattle.orc_program.specs.declared.answer.Answer.{Answer}
use Rattle.orc_program.specs.declared.ended.Ended.{Ended}
use Rattle.orc_program.specs.declared.ended.Ended.TheVariants as end
use Rattle.orc_program.specs.Answers.{AnswersFile, RefusesSize}
use Rattle.orc_program.specs.Refusals.{AnswersFault, record_line}

-- what is true of a text that is there is true of the text of the answer
pub is_left : {E : Type 0} (r : Result Answer E) (text : Result (List ℕ) E) (what ended : Ended) (P : List ℕ → Type 0) (Q : Answer → Type 0)
    → ((a : Answer) → a.status ≡ 0 → ended ≡ what → P a.text → Q a)
    → IfOk r (λ (a : Answer). (a.status ≡ 0) × (ended ≡ what) × (text ≡ Ok a.text)) → IfOk text P → IfOk r Q
is_left r text what ended P Q so h told = IfOk-weaker r (λ (a : Answer). (a.status ≡ 0) × (ended ≡ what) × (text ≡ Ok a.text)) Q
    (λ a is. so a is.0 is.1 (subst (λ t. IfOk t P) is.2 told)) h

module _ {L C : Type 0} (is_file : List L → Type 0) (refuses : FileRefused C → Type 0) (word : C → List ℕ) (has_told : List L → Ended → List ℕ → Type 0)
    (ended : Ended) where
  -- what is told of the lines of a file, of its first record outside the grammar, or of its size
  abbrev pub IsTheAnswer : Answer → Type 0
  IsTheAnswer a = AnswersFile is_file refuses word has_told ended a.status a.text ⊎ RefusesSize (refuses fault.TooMany) ended a.status a.text

  pub is_told : {E : Type 0} (r : Result Answer E) (lines : List L) → is_file lines
      → IfOk r (λ (a : Answer). (a.status ≡ 0) × has_told lines ended a.text) → IfOk r IsTheAnswer
  is_told r lines file h =
      IfOk-weaker r (λ (a : Answer). (a.status ≡ 0) × has_told lines ended a.text) IsTheAnswer (λ a done. inl (inl (done.0, (lines, file, done.1)))) h

  refusal : (a : Answer) (why : FileRefused C) → refuses why → ended ≡ end.Nothing → AnswersFault word why a.status a.text → IsTheAnswer a
  refusal a (fault.Malformed place cause) bad none said = inl (inr (said.0, none, record { place = place; why = cause; refused = bad; says = said.1 }))
  refusal a fault.TooMany many none said = inr (said.0, none, many, said.1)
  refusal a fault.NoMemory bad none said = absurd said

  pub is_refused : {E : Type 0} (r : Result Answer E) (why : FileRefused C) → refuses why → ended ≡ end.Nothing
      → IfOk r (λ (a : Answer). AnswersFault word why a.status a.text) → IfOk r IsTheAnswer
  is_refused r why bad none h =
      IfOk-weaker r (λ (a : Answer). AnswersFault word why a.status a.text) IsTheAnswer (λ a said. refusal a why bad none said) h

-- the answer to the bytes of a file, where lines are known by their records
module _ {L C : Type 0} {record_of : L → List (List ℕ)} {IsLine : L → Type 0} {HasCause : List (List ℕ) → C → Type 0}
    (laws : AreDetermined record_of IsLine HasCause) (word : C → List ℕ) (has_told : List L → Ended → List ℕ → Type 0)
    (bytes : List ℕ) (ended : Ended) (status : ℕ) (text : List ℕ) where
  abbrev pub IsFileAnswered : Type 0
  IsFileAnswered = AnswersFile (λ lines. IsFile record_of IsLine lines bytes) (λ why. RefusesFile record_of IsLine HasCause bytes why) word has_told ended status text

  -- bytes are not both a file and refused
  pub of_file : (lines : List L) → IsFile record_of IsLine lines bytes → IsFileAnswered → status ≡ 0
  of_file lines is (inl told) = told.0
  of_file lines is (inr named) = absurd (not-read laws bytes lines named.2.place named.2.why named.2.refused is)

  -- the line of a fault that names a record
  abbrev line_of : FileRefused C → List ℕ
  line_of (fault.Malformed place why) = record_line place (word why)
  line_of fault.TooMany = []
  line_of fault.NoMemory = []

  -- a record that is refused is the first, so there is one line
  pub of_record : (place : ℕ) (why : C) → RefusesFile record_of IsLine HasCause bytes (fault.Malformed place why) → IsFileAnswered
      → (status ≡ 3) × (text ≡ record_line place (word why))
  of_record place why bad (inl (is, (lines, file, told))) = absurd (not-read laws bytes lines place why bad file)
  of_record place why bad (inr (is, new, named)) = elim (one-refusal laws bytes place why bad (fault.Malformed named.place named.why) named.refused) [
    | inl same ↦ (is, named.says ∙ ap line_of same)
    | inr memory ↦ let n : ⊥ = cc memory in absurd n
  ]

  -- there are not too many records in either
  pub no_answer : RefusesFile record_of IsLine HasCause bytes fault.TooMany → IsFileAnswered → ⊥
  no_answer many (inl (is, (lines, file, told))) = not-few laws bytes lines many file
  no_answer many (inr (is, new, named)) = not-both laws bytes named.place named.why named.refused many
