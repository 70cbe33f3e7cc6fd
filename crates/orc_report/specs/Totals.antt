-- The totals of operations, as a summary keeps them.
use Rattle.std.specs.Prelude.{◌++◌, List, ℕ, codes, length, map, sum}
use Rattle.std.specs.Fmt.{decimal}
use Rattle.orc_jobs.specs.Line.{operation_word}
use Rattle.orc_jobs.specs.declared.line.Job.{Job}
use Rattle.orc_jobs.specs.declared.line.Job.TheVariants as job
use Rattle.orc_report.specs.Summary.{values_of}
use Rattle.orc_report.specs.declared.summary.Total.{Total}

-- the key of an operation
abbrev pub key_of_operation : Job → ℕ
key_of_operation job.Bytes = 0
key_of_operation job.Words = 1
key_of_operation job.Sum = 2

-- how many of these jobs have this operation, and the sum of their values
abbrev pub total_of : List (Job × ℕ) → Job → Total
total_of jobs op = record { op = op; jobs = length (values_of op jobs); sum = sum (values_of op jobs) }

-- the totals of these operations, by their keys
abbrev pub operation_totals : List (Job × ℕ) → List Job → List (ℕ × Total)
operation_totals jobs ops = map (λ op. (key_of_operation op, total_of jobs op)) ops

-- the line of a total
abbrev pub line_of : Total → List ℕ
line_of t = operation_word t.op ++ codes " jobs " ++ decimal t.jobs ++ codes " total " ++ decimal t.sum ++ codes "\n"
