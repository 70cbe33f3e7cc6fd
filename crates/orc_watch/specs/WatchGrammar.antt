-- What a watch file says: how each line is spelled as a record, and what is first amiss with a record that is the spelling of none.
use Rattle.std.specs.Prelude.{◌≡◌, ◌≢◌, ◌^◌, ◌<◌, ◌⊎◌, ◌∷◌, All, IsUtf8, List, [], ℕ, codes, length, ⊤}
use Rattle.std.specs.Fmt.{decimal}
use Rattle.orc_job_files.specs.OneRecord.{RefusesFile}
use Rattle.orc_job_files.specs.RecordFiles.{HasFirst, IsFile, field}
use Rattle.orc_jobs.specs.Numbers.{IsNumber}
use Rattle.orc_job_files.specs.declared.records.FileRefused.{FileRefused}
use Rattle.orc_watch.specs.declared.cause.WatchCause.{WatchCause}
use Rattle.orc_watch.specs.declared.cause.WatchCause.TheVariants as cause
use Rattle.orc_watch.specs.declared.line.WatchLine.{WatchLine}
use Rattle.orc_watch.specs.declared.line.WatchLine.TheVariants as line

-- the record that a line is spelled as
abbrev pub record_of : WatchLine → List (List ℕ)
record_of (line.Left value) = codes "left" ∷ decimal value ∷ []
record_of (line.Right value) = codes "right" ∷ decimal value ∷ []
record_of (line.Both left right) = codes "both" ∷ decimal left ∷ decimal right ∷ []
record_of line.See = codes "see" ∷ []

-- a line that a record with nothing amiss can stand for
abbrev pub IsLine : WatchLine → Type 0
IsLine (line.Left value) = value < 2 ^ 32
IsLine (line.Right value) = value < 2 ^ 32
IsLine (line.Both left right) = (left < 2 ^ 32) × (right < 2 ^ 32)
IsLine line.See = ⊤

-- the bytes are the file of these lines
abbrev pub IsFileOf : List WatchLine → List ℕ → Type 0
IsFileOf lines bytes = IsFile record_of IsLine lines bytes

-- a record with this first field has another number of fields than it should
abbrev pub HasOtherSize : List ℕ → ℕ → Type 0
HasOtherSize verb size = ((verb ≡ codes "see") × (size ≢ 1)) ⊎ ((verb ≡ codes "both") × (size ≢ 3))
    ⊎ ((verb ≢ codes "see") × (verb ≢ codes "both") × (size ≢ 2))

-- this cause applies to a record
abbrev pub Applies : WatchCause → List (List ℕ) → Type 0
Applies cause.Fields fields = HasOtherSize (field fields 0) (length fields)
Applies cause.Utf8 fields = ¬ All IsUtf8 fields
Applies cause.Verb fields = (field fields 0 ≢ codes "left") × (field fields 0 ≢ codes "right") × (field fields 0 ≢ codes "both") × (field fields 0 ≢ codes "see")
Applies cause.Value fields =
    ((field fields 0 ≢ codes "see") × ¬ IsNumber (field fields 1)) ⊎ ((field fields 0 ≡ codes "both") × ¬ IsNumber (field fields 2))

-- the order of the causes
abbrev pub rank_of : WatchCause → ℕ
rank_of cause.Fields = 0
rank_of cause.Utf8 = 1
rank_of cause.Verb = 2
rank_of cause.Value = 3

-- the cause of a record: the first that applies
abbrev pub HasCause : List (List ℕ) → WatchCause → Type 0
HasCause fields why = HasFirst Applies rank_of fields why

-- the bytes are refused with this fault
abbrev pub Refuses : List ℕ → FileRefused WatchCause → Type 0
Refuses bytes why = RefusesFile record_of IsLine HasCause bytes why
