-- What is done with one record, behind the lines of the earlier ones, and why the bytes of all are refused.
use Rattle.std.specs.Prelude.{◌≡◌, ◌<◌, ◌⊎◌, List, MatchResult, ℕ, length, ⊤}
use Rattle.std.specs.declared.result.Result.{Result}
use Rattle.orc_job_files.specs.RecordFiles.{HasTooMany, IsMalformed}
use Rattle.orc_job_files.specs.declared.from_record.RecordRefused.{RecordRefused}
use Rattle.orc_job_files.specs.declared.from_record.RecordRefused.TheVariants as refused
use Rattle.orc_job_files.specs.declared.records.FileRefused.{FileRefused}
use Rattle.orc_job_files.specs.declared.records.FileRefused.TheVariants as fault

-- why a record gives no line
abbrev pub Explains : {C : Type 0} → (List (List ℕ) → C → Type 0) → List (List ℕ) → RecordRefused C → Type 0
Explains HasCause fields (refused.Cause why) = HasCause fields why
Explains HasCause fields refused.NoMemory = ⊤

-- why a record behind some lines is refused
abbrev pub RefusesRecord : {L C : Type 0} → (List (List ℕ) → C → Type 0) → List L → List (List ℕ) → FileRefused C → Type 0
RefusesRecord HasCause front fields (fault.Malformed at why) = (length front ≡ at) × (at < 65535) × HasCause fields why
RefusesRecord HasCause front fields fault.TooMany = length front ≡ 65535
RefusesRecord HasCause front fields fault.NoMemory = ⊤

-- the bytes are refused with this fault: some lines, and then a record with a cause within the first 65,535; or 65,535 lines, and then any record
abbrev pub RefusesFile : {L C : Type 0} → (L → List (List ℕ)) → (L → Type 0) → (List (List ℕ) → C → Type 0) → List ℕ → FileRefused C → Type 0
RefusesFile record_of IsLine HasCause bytes (fault.Malformed at why) = IsMalformed record_of IsLine HasCause bytes at why
RefusesFile record_of IsLine HasCause bytes fault.TooMany = HasTooMany record_of IsLine bytes
RefusesFile record_of IsLine HasCause bytes fault.NoMemory = ⊤

-- these lines are read, unless memory runs out
abbrev pub GivesLines : {L C : Type 0} → List L → Result (List L) (FileRefused C) → Type 0
GivesLines file r = MatchResult r (λ lines. lines ≡ file) (λ e. e ≡ fault.NoMemory)

-- no line is read, and this fault is told, unless memory runs out
abbrev pub GivesFault : {L C : Type 0} → FileRefused C → Result (List L) (FileRefused C) → Type 0
GivesFault why r = MatchResult r (λ _. ⊥) (λ e. (e ≡ why) ⊎ (e ≡ fault.NoMemory))
