-- When all jobs of lines are done.
use Rattle.std.specs.Prelude.{◌≡◌, ◌≢◌, List, ℕ}
use Rattle.std.specs.List.{AllByRecursion}
use Rattle.orc_jobs.specs.declared.line.Job.{Job}
use Rattle.orc_jobs.specs.declared.line.Line.{Line}
use Rattle.orc_jobs.specs.declared.line.Line.TheVariants as line
use Rattle.orc_jobs.specs.JobValue.{IsJobValue}
use Rattle.orc_history.specs.Lists.{Pairwise}
use Rattle.orc_board.specs.declared.replies.PostReply.{PostReply}
use Rattle.orc_board.specs.declared.replies.PostWord.TheVariants as post
use Rattle.orc_board.specs.declared.replies.TakeReply.{TakeReply}
use Rattle.orc_board.specs.declared.replies.TakeWord.TheVariants as take

-- the operation of the line's job, and its value
abbrev pub IsJobOf : Line → Job × ℕ → Type 0
IsJobOf (line.Post id op text) j = (j.0 ≡ op) × IsJobValue (line.Post id op text) j.1
IsJobOf (line.Rush id op text) j = (j.0 ≡ op) × IsJobValue (line.Rush id op text) j.1
IsJobOf (line.Drop id) j = ⊥

-- these are the jobs of all lines, in order, each with its value
abbrev pub AreJobsOf : List Line → List (Job × ℕ) → Type 0
AreJobsOf lines jobs = Pairwise IsJobOf lines jobs

-- no reply is NoNode or Spent
abbrev pub NoneRefused : List PostReply → Type 0
NoneRefused posts = AllByRecursion (λ (r : PostReply). (r.what ≢ post.NoNode) × (r.what ≢ post.Spent)) posts

-- no reply is Void
abbrev pub NoneVoid : List TakeReply → Type 0
NoneVoid takes = AllByRecursion (λ (r : TakeReply). r.what ≢ take.Void) takes
