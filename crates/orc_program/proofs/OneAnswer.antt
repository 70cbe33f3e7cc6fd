-- Settings and bytes have one answer.
use Rattle.std.proofs.Common.{◌≡◌, ◌≢◌, ◌∙◌, ◌≤◌, ◌⊎◌, List, [], ℕ, Ok, ap, arith, inl, inr, length, subst}
use Rattle.orc_job_files.specs.JobGrammar.{IsFileOf}
use Rattle.orc_job_files.specs.OneRecord.{RefusesFile}
use Rattle.orc_job_files.specs.RecordFiles.{IsFile}
use Rattle.orc_jobs.specs.declared.line.Line.{Line}
use Rattle.orc_job_files.specs.declared.records.FileRefused.TheVariants as fault
use Rattle.orc_job_files.proofs.FileLaws.{AreDetermined, not-both, not-few}
use Rattle.orc_job_files.proofs.GrammarLaws.{laws}
use Rattle.orc_trace.specs.Answers.{audit_lines, fault_line, replay_line}
use Rattle.orc_trace.specs.Audit.{IsAudit}
use Rattle.orc_trace.specs.Replay.{IsReplay, RefusesTrace}
use Rattle.orc_trace.specs.declared.answers.Audit.{Audit}
use Rattle.orc_trace.specs.declared.answers.Replayed.{Replayed}
use Rattle.orc_trace.specs.declared.answers.TraceFault.{TraceFault}
use Rattle.orc_trace.specs.declared.answers.TraceFault.TheVariants as trace
use Rattle.orc_trace.proofs.OneAudit.{only-audit, only-refusal}
use Rattle.orc_trace.proofs.Unique.{refusal-unique, replay-not_refused, replay-unique}
use Rattle.orc_options.specs.declared.settings.Mode.{Mode}
use Rattle.orc_options.specs.declared.settings.Mode.TheVariants as mode
use Rattle.orc_options.specs.declared.settings.Settings.{Settings}
use Rattle.orc_program.specs.declared.ended.Ended.{Ended}
use Rattle.orc_program.specs.declared.trace_mode.Told.{Told}
use Rattle.orc_program.specs.declared.trace_mode.Told.TheVariants as told
use Rattle.orc_program.specs.Answers.{ProgramAnswers, AnswersTrace, HasTooManyRecords, IsTooLarge, ModeAnswers, made_text}
use Rattle.orc_program.specs.Ended.{HasReported, TellsStages, HasWatched}
use Rattle.orc_jobs.specs.declared.lines.TheConstants.{MOST_BYTES}
use Rattle.orc_program.specs.Refusals.{cause_word, input_too_large, record_line, watch_cause_word}
use Rattle.orc_program.proofs.Files.{IsFileAnswered, no_answer, of_file, of_record}
use Rattle.orc_watch.proofs.GrammarLaws.{laws as watch_laws}

-- none of these is the status of a failed read or write, or of want of memory
pub no_failure : (n : ℕ) → (n ≡ 0) ⊎ (n ≡ 3) ⊎ (n ≡ 6) ⊎ (n ≡ 8) → (n ≢ 4) × (n ≢ 5) × (n ≢ 7)
no_failure n (inl is) = (λ e. omega (arith, is, e), λ e. omega (arith, is, e), λ e. omega (arith, is, e))
no_failure n (inr (inl is)) = (λ e. omega (arith, is, e), λ e. omega (arith, is, e), λ e. omega (arith, is, e))
no_failure n (inr (inr (inl is))) = (λ e. omega (arith, is, e), λ e. omega (arith, is, e), λ e. omega (arith, is, e))
no_failure n (inr (inr (inr is))) = (λ e. omega (arith, is, e), λ e. omega (arith, is, e), λ e. omega (arith, is, e))

module _ (s : Settings) (bytes : List ℕ) (e : Ended) (status : ℕ) (text : List ℕ) where
  -- bytes that are not too large are answered by the mode
  in_mode : (m : Mode) → ProgramAnswers s bytes e status text → s.mode ≡ m → length bytes ≤ MOST_BYTES → (HasTooManyRecords m bytes → ⊥)
      → ModeAnswers m s bytes e status text
  in_mode m (inr answer) is few single = subst (λ (n : Mode). ModeAnswers n s bytes e status text) is answer.1
  in_mode m (inl large) is few single = elim large.2 [
    | inl more ↦ absurd (omega (arith, few, more))
    | inr many ↦ absurd (single (subst (λ (n : Mode). HasTooManyRecords n bytes) is many))
  ]

  -- of a file of lines, in a mode that answers it
  module _ {L C : Type 0} {record_of : L → List (List ℕ)} {IsLine : L → Type 0} {HasCause : List (List ℕ) → C → Type 0}
      (known : AreDetermined record_of IsLine HasCause) (word : C → List ℕ) (has_told : List L → Ended → List ℕ → Type 0)
      (m : Mode) (as_file : ModeAnswers m s bytes e status text → IsFileAnswered known word has_told bytes e status text)
      (as_many : HasTooManyRecords m bytes → RefusesFile record_of IsLine HasCause bytes fault.TooMany)
      (answer : ProgramAnswers s bytes e status text) (asks : s.mode ≡ m) (few : length bytes ≤ MOST_BYTES)
    where
      pub of_lines : (lines : List L) → IsFile record_of IsLine lines bytes → status ≡ 0
      of_lines lines is =
          of_file known word has_told bytes e status text lines is (as_file (in_mode m answer asks few (λ many. not-few known bytes lines (as_many many) is)))

      pub of_bad : (place : ℕ) (why : C) → RefusesFile record_of IsLine HasCause bytes (fault.Malformed place why)
          → (status ≡ 3) × (text ≡ record_line place (word why))
      of_bad place why bad =
          of_record known word has_told bytes e status text place why bad
          (as_file (in_mode m answer asks few (λ many. not-both known bytes place why bad (as_many many))))

  pub file : ProgramAnswers s bytes e status text → s.mode ≡ mode.Run → length bytes ≤ MOST_BYTES → (lines : List Line) → IsFileOf lines bytes → status ≡ 0
  file a run few = of_lines laws cause_word (λ ls e t. HasReported ls s e t) mode.Run (λ h. h) (λ h. h) a run few

  not_answered : (m : Mode) → HasTooManyRecords m bytes → ModeAnswers m s bytes e status text → ⊥
  not_answered mode.Run many a = no_answer laws cause_word (λ ls e t. HasReported ls s e t) bytes e status text many a
  not_answered mode.Watch many a = no_answer watch_laws watch_cause_word (λ ls e t. HasWatched ls s e t) bytes e status text many a
  not_answered mode.Stages many a = no_answer laws cause_word (λ ls e t. TellsStages ls s e t) bytes e status text many a
  not_answered mode.Make many a = many
  not_answered mode.Trial many a = many
  not_answered mode.Replay many a = many
  not_answered mode.Audit many a = many

  pub large : ProgramAnswers s bytes e status text → IsTooLarge s.mode bytes → (status ≡ 6) × (text ≡ input_too_large)
  large (inl a) is = (a.0, a.3)
  large (inr a) (inl more) = absurd (omega (arith, a.0, more))
  large (inr a) (inr many) = absurd (not_answered s.mode many a.1)

  mode_status : (m : Mode) → ModeAnswers m s bytes e status text → (status ≡ 0) ⊎ (status ≡ 3) ⊎ (status ≡ 6) ⊎ (status ≡ 8)
  mode_status mode.Run (inl a) = inl a.0
  mode_status mode.Run (inr a) = inr (inl a.0)
  mode_status mode.Make a = inl a.0
  mode_status mode.Trial a = inl a.0
  mode_status mode.Replay (new, inl a) = inl a.0
  mode_status mode.Replay (new, inr a) = inr (inr (inr a.0))
  mode_status mode.Audit (new, inl a) = inl a.0
  mode_status mode.Audit (new, inr a) = inr (inr (inr a.0))
  mode_status mode.Watch (inl a) = inl a.0
  mode_status mode.Watch (inr a) = inr (inl a.0)
  mode_status mode.Stages (inl a) = inl a.0
  mode_status mode.Stages (inr a) = inr (inl a.0)

  pub statuses : ProgramAnswers s bytes e status text → (status ≡ 0) ⊎ (status ≡ 3) ⊎ (status ≡ 6) ⊎ (status ≡ 8)
  statuses (inl a) = inr (inr (inl a.0))
  statuses (inr a) = mode_status s.mode a.1

  -- each told trace has one text, and one line of its first fault
  of_trace : (played : Replayed) → IsReplay bytes played → AnswersTrace told.Census bytes status text → (status ≡ 0) × (text ≡ replay_line played)
  of_trace played is (inl (zero, (other, also, says))) = (zero, says ∙ ap replay_line (replay-unique bytes other played also is))
  of_trace played is (inr (eight, named)) = absurd (replay-not_refused bytes played named.why named.some is named.refused)

  pub replay : ProgramAnswers s bytes e status text → s.mode ≡ mode.Replay → length bytes ≤ MOST_BYTES → (played : Replayed) → IsReplay bytes played
      → (status ≡ 0) × (text ≡ replay_line played)
  replay a asks few played is = of_trace played is (in_mode mode.Replay a asks few (λ many. many)).1

  of_audit : (audit : Audit) → IsAudit bytes audit → AnswersTrace told.Audit bytes status text → (status ≡ 0) × (text ≡ audit_lines audit)
  of_audit audit is (inl (zero, (other, also, says))) = (zero, says ∙ ap audit_lines (only-audit bytes (Ok other) also tt audit is))
  of_audit audit is (inr (eight, named)) = absurd (only-refusal bytes (Ok audit) is tt named.why named.some named.refused)

  pub audit : ProgramAnswers s bytes e status text → s.mode ≡ mode.Audit → length bytes ≤ MOST_BYTES → (audit : Audit) → IsAudit bytes audit
      → (status ≡ 0) × (text ≡ audit_lines audit)
  audit a asks few told_audit is = of_audit told_audit is (in_mode mode.Audit a asks few (λ many. many)).1

  named_fault : (why : TraceFault) → why ≢ trace.NoMemory → RefusesTrace bytes why → (what : Told) → AnswersTrace what bytes status text
      → (status ≡ 8) × (text ≡ fault_line why)
  named_fault why other bad told.Census (inl (zero, (played, is, says))) = absurd (replay-not_refused bytes played why other is bad)
  named_fault why other bad told.Audit (inl (zero, (audit, is, says))) = absurd (only-refusal bytes (Ok audit) is tt why other bad)
  named_fault why other bad what (inr (eight, named)) =
      (eight, named.says ∙ ap fault_line (refusal-unique bytes named.why why named.some other named.refused bad))

  pub fault_named : ProgramAnswers s bytes e status text → (s.mode ≡ mode.Replay) ⊎ (s.mode ≡ mode.Audit) → length bytes ≤ MOST_BYTES → (why : TraceFault)
      → why ≢ trace.NoMemory → RefusesTrace bytes why → (status ≡ 8) × (text ≡ fault_line why)
  fault_named a (inl asks) few why other bad = named_fault why other bad told.Census (in_mode mode.Replay a asks few (λ many. many)).1
  fault_named a (inr asks) few why other bad = named_fault why other bad told.Audit (in_mode mode.Audit a asks few (λ many. many)).1

module _ (s : Settings) (e : Ended) (status : ℕ) (text : List ℕ) where
  pub make : ProgramAnswers s [] e status text → s.mode ≡ mode.Make → (status ≡ 0) × (text ≡ made_text s)
  make a asks = let made = in_mode s [] e status text mode.Make a asks (omega arith) (λ many. many) in (made.0, made.2)

  pub trial : ProgramAnswers s [] e status text → s.mode ≡ mode.Trial → status ≡ 0
  trial a asks = (in_mode s [] e status text mode.Trial a asks (omega arith) (λ many. many)).0
