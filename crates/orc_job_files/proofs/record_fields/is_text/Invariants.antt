use Rattle.std.proofs.Common.{ℕ, ◌<◌, IsUtf8}
use Rattle.csv.specs.Records.{fields_of}
use Rattle.orc_job_files.specs.RecordFiles.{field}
use Rattle.orc_job_files.proofs.record_fields.is_text.Given as goal

abbrev pub invariant-loop-place : goal.invariant-loop-place
invariant-loop-place l = (k : ℕ) → k < l.place → IsUtf8 (field (fields_of l.row) k)
