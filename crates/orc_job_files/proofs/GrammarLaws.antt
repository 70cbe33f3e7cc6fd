-- The laws of the lines of a job file, and what follows for a file.
use Rattle.std.proofs.Common.{◌≡◌, ◌⊎◌, List, ℕ}
use Rattle.orc_job_files.proofs.FileLaws.{AreDetermined, one-reading, one-refusal}
use Rattle.orc_job_files.specs.JobGrammar.{HasCause, IsFileOf, Refuses, record_of}
use Rattle.orc_jobs.specs.Line.{IsLine}
use Rattle.orc_job_files.specs.Laws.JobLines.{known_by_record, line_has_no_cause, record_has_one_cause}
use Rattle.orc_job_files.specs.declared.cause.Cause.{Cause}
use Rattle.orc_jobs.specs.declared.line.Line.{Line}
use Rattle.orc_job_files.specs.declared.records.FileRefused.{FileRefused}
use Rattle.orc_job_files.specs.declared.records.FileRefused.TheVariants as fault

pub laws : AreDetermined record_of IsLine HasCause
laws = record {
  same_line = known_by_record;
  no_cause = line_has_no_cause;
  one_cause = record_has_one_cause;
}

-- a file has one reading, and a refused one another fault at most where memory suffices
pub file-read : (bytes : List ℕ) (a b : List Line) → IsFileOf a bytes → IsFileOf b bytes → a ≡ b
file-read bytes a b x y = one-reading laws bytes a b x y

pub refused-bad : (bytes : List ℕ) (at : ℕ) (why : Cause) (f : FileRefused Cause) → Refuses bytes (fault.Malformed at why) → Refuses bytes f
    → (f ≡ fault.Malformed at why) ⊎ (f ≡ fault.NoMemory)
refused-bad bytes at why f bad found = one-refusal laws bytes at why bad f found
