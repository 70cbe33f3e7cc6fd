-- The text of a summary: how many jobs were done, and of each operation how many and the sum of their values.
use Rattle.std.specs.Prelude.{◌++◌, Bool, false, true, not, List, [], ◌∷◌, ℕ, codes, filter, length, map, slice_get, sum, Option, Some, None}
use Rattle.std.specs.List.{flat_map}
use Rattle.std.specs.Fmt.{decimal}
use Rattle.orc_jobs.specs.Line.{operation_word}
use Rattle.orc_jobs.specs.declared.line.Job.{Job}
use Rattle.orc_jobs.specs.declared.line.Job.TheVariants as job
use Rattle.orc_jobs.specs.declared.line.Line.{Line}
use Rattle.orc_jobs.specs.declared.line.Line.TheVariants as line
use Rattle.orc_board.specs.Follows.{grouped_by_key}
use Rattle.orc_board.specs.declared.replies.TakeReply.{TakeReply}
use Rattle.orc_board.specs.declared.replies.TakeWord.{TakeWord}
use Rattle.orc_board.specs.declared.replies.TakeWord.TheVariants as take

-- the operation and the value of a record's job, where it was done
abbrev pub done_as : Option Line → TakeWord → List (Job × ℕ)
done_as (Some (line.Post id op text)) (take.Done value) = (op, value) ∷ []
done_as (Some (line.Post id op text)) take.Void = []
done_as (Some (line.Rush id op text)) (take.Done value) = (op, value) ∷ []
done_as (Some (line.Rush id op text)) take.Void = []
done_as (Some (line.Drop id)) what = []
done_as None what = []

abbrev pub done_in : List Line → TakeReply → List (Job × ℕ)
done_in lines r = done_as (slice_get lines r.line) r.what

-- the jobs that were done, in order of their records
abbrev pub done_jobs : List Line → List TakeReply → List (Job × ℕ)
done_jobs lines takes = flat_map (done_in lines) (grouped_by_key (λ (r : TakeReply). r.line) (length lines) takes)

abbrev pub same_op : Job → Job → Bool
same_op job.Bytes job.Bytes = true
same_op job.Words job.Words = true
same_op job.Sum job.Sum = true
same_op a b = false

-- the operations, each where it stands first
abbrev pub firsts : List Job → List Job
firsts [] = []
firsts (op ∷ ops) = op ∷ filter (λ other. not (same_op op other)) (firsts ops)

-- the operations of jobs
abbrev pub operations_of : List (Job × ℕ) → List Job
operations_of jobs = map (λ (j : Job × ℕ). j.0) jobs

-- the values of the jobs with this operation
abbrev pub values_of : Job → List (Job × ℕ) → List ℕ
values_of op jobs = map (λ (j : Job × ℕ). j.1) (filter (λ (j : Job × ℕ). same_op op j.0) jobs)

-- the line of an operation: how many jobs, and the sum of their values
abbrev pub total_line : List (Job × ℕ) → Job → List ℕ
total_line jobs op =
    operation_word op ++ codes " jobs " ++ decimal (length (values_of op jobs)) ++ codes " total " ++ decimal (sum (values_of op jobs)) ++ codes "\n"

-- the summary of these jobs, operation by operation in order of the first job of each
abbrev pub summary_of : List (Job × ℕ) → List ℕ
summary_of jobs = codes "done " ++ decimal (length jobs) ++ codes "\n" ++ flat_map (total_line jobs) (firsts (operations_of jobs))
