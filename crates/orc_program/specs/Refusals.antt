-- The lines that are written where words or an input are refused.
use Rattle.std.specs.Prelude.{◌++◌, ◌≡◌, List, ℕ, codes}
use Rattle.std.specs.Fmt.{decimal}
use Rattle.orc_job_files.specs.declared.cause.Cause.{Cause}
use Rattle.orc_job_files.specs.declared.cause.Cause.TheVariants as cause
use Rattle.orc_job_files.specs.declared.records.FileRefused.{FileRefused}
use Rattle.orc_job_files.specs.declared.records.FileRefused.TheVariants as fault
use Rattle.orc_watch.specs.declared.cause.WatchCause.{WatchCause}
use Rattle.orc_watch.specs.declared.cause.WatchCause.TheVariants as watch

abbrev pub words_refused : List ℕ
words_refused = codes "words refused\n"

abbrev pub input_too_large : List ℕ
input_too_large = codes "input too large\n"

abbrev pub cause_word : Cause → List ℕ
cause_word cause.Fields = codes "fields"
cause_word cause.Utf8 = codes "utf8"
cause_word cause.Verb = codes "verb"
cause_word cause.Id = codes "id"
cause_word cause.Op = codes "op"
cause_word cause.Sum = codes "sum"

abbrev pub watch_cause_word : WatchCause → List ℕ
watch_cause_word watch.Fields = codes "fields"
watch_cause_word watch.Utf8 = codes "utf8"
watch_cause_word watch.Verb = codes "verb"
watch_cause_word watch.Value = codes "value"

-- the line that names a record, and by a word what is wrong with it
abbrev pub record_line : ℕ → List ℕ → List ℕ
record_line place word = codes "line " ++ decimal place ++ codes ": " ++ word ++ codes "\n"

-- of a record of a job file, and of a watch file
abbrev pub malformed_line : ℕ → Cause → List ℕ
malformed_line place why = record_line place (cause_word why)

abbrev pub malformed_watch : ℕ → WatchCause → List ℕ
malformed_watch place why = record_line place (watch_cause_word why)

-- how a file with this fault is refused, where each cause has a word: by the line of its record, or for its many records; for want of memory it has no answer
abbrev pub AnswersFault : {C : Type 0} → (C → List ℕ) → FileRefused C → ℕ → List ℕ → Type 0
AnswersFault word (fault.Malformed place why) status text = (status ≡ 3) × (text ≡ record_line place (word why))
AnswersFault word fault.TooMany status text = (status ≡ 6) × (text ≡ input_too_large)
AnswersFault word fault.NoMemory status text = ⊥
