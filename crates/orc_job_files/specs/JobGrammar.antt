-- What a job file says: how each line is spelled as a record, and what is first amiss with a record that is the spelling of none.
use Rattle.std.specs.Prelude.{◌≡◌, ◌≢◌, ◌⊎◌, ◌∷◌, All, IsUtf8, List, [], ℕ, codes, length}
use Rattle.std.specs.Fmt.{decimal}
pub use Rattle.orc_job_files.specs.RecordFiles.{field, records_of}
use Rattle.orc_job_files.specs.OneRecord.{RefusesFile}
use Rattle.orc_job_files.specs.RecordFiles.{HasFirst, IsFile}
use Rattle.orc_jobs.specs.Line.{IsLine, operation_word}
use Rattle.orc_jobs.specs.Numbers.{IsNumber, IsNumberList}
use Rattle.orc_job_files.specs.declared.cause.Cause.{Cause}
use Rattle.orc_job_files.specs.declared.cause.Cause.TheVariants as cause
use Rattle.orc_jobs.specs.declared.line.Job.{Job}
use Rattle.orc_jobs.specs.declared.line.Line.{Line}
use Rattle.orc_jobs.specs.declared.line.Line.TheVariants as line
use Rattle.orc_job_files.specs.declared.records.FileRefused.{FileRefused}

-- the record that a line is spelled as
abbrev pub record_of : Line → List (List ℕ)
record_of (line.Post id op text) = codes "post" ∷ decimal id ∷ operation_word op ∷ text ∷ []
record_of (line.Rush id op text) = codes "rush" ∷ decimal id ∷ operation_word op ∷ text ∷ []
record_of (line.Drop id) = codes "drop" ∷ decimal id ∷ []

-- the bytes are the file of these lines
abbrev pub IsFileOf : List Line → List ℕ → Type 0
IsFileOf lines bytes = IsFile record_of IsLine lines bytes

-- the word of some operation
abbrev pub IsOpWord : List ℕ → Type 0
IsOpWord text = (op : Job) × (text ≡ operation_word op)

-- this cause applies to a record
abbrev pub Applies : Cause → List (List ℕ) → Type 0
Applies cause.Fields fields = ((field fields 0 ≡ codes "drop") × (length fields ≢ 2)) ⊎ ((field fields 0 ≢ codes "drop") × (length fields ≢ 4))
Applies cause.Utf8 fields = ¬ All IsUtf8 fields
Applies cause.Verb fields = (field fields 0 ≢ codes "post") × (field fields 0 ≢ codes "rush") × (field fields 0 ≢ codes "drop")
Applies cause.Id fields = ¬ IsNumber (field fields 1)
Applies cause.Op fields = (field fields 0 ≢ codes "drop") × ¬ IsOpWord (field fields 2)
Applies cause.Sum fields = (field fields 0 ≢ codes "drop") × (field fields 2 ≡ codes "sum") × ¬ IsNumberList (field fields 3)

-- the order of the causes
abbrev pub rank_of : Cause → ℕ
rank_of cause.Fields = 0
rank_of cause.Utf8 = 1
rank_of cause.Verb = 2
rank_of cause.Id = 3
rank_of cause.Op = 4
rank_of cause.Sum = 5

-- the cause of a record: the first that applies
abbrev pub HasCause : List (List ℕ) → Cause → Type 0
HasCause fields why = HasFirst Applies rank_of fields why

-- the bytes are refused with this fault
abbrev pub Refuses : List ℕ → FileRefused Cause → Type 0
Refuses bytes why = RefusesFile record_of IsLine HasCause bytes why
