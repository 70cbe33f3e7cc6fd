-- A pipeline: queues in a row, posters that put into the first, one worker between each two of them, and a caller that comes last.
use Rattle.std.specs.Prelude.{◌≡◌, ◌≢◌, ℕ, suc, ◌+◌, ◌<◌, ◌≤◌, ◌==◌, Bool, true, false, List, [], ◌∷◌, ◌++◌, length, map, filter, Option, Some, None}
use Rattle.std.specs.List.{AllByRecursion}
use mathlib.Core.List.{IsPrefix}
use Rattle.orc_history.specs.declared.queue.QueueEntry.{QueueEntry}
use Rattle.orc_history.specs.declared.queue.QueueEntry.TheVariants.{Put}
use Rattle.orc_history.specs.declared.queue.QueueRefused.{QueueRefused}
use Rattle.orc_history.specs.declared.queue.QueueRefused.TheVariants as queue_refused
use Rattle.orc_history.specs.QueueHistory.{agent_of_entry, IsLegalQueue, waiting_after}
use Rattle.orc_jobs.specs.declared.line.Line.{Line}
use Rattle.orc_jobs.specs.Line.{jobs_in}
use Rattle.orc_board.specs.declared.replies.PostReply.{PostReply}
use Rattle.orc_board.specs.declared.replies.PostWord.TheVariants as word
use Rattle.orc_board.specs.Stretches.{View, just, refusal, is_own_move, beside}
use Rattle.orc_history.specs.Lists.{Pairwise}
use Rattle.orc_board.specs.Follows.{AreInOrder, IsWorker, LastIsEmpty, ZeroLast, grouped_by_key, posts_of}
use Rattle.orc_stages.specs.declared.replies.StageReply.{StageReply}
use Rattle.orc_stages.specs.Stage.{QueueShare, DidShares, IsItem, IsStageValue, Posting, jobs_of}

-- the jobs of an agent's own Puts in a history, at true, or those of its own Tooks, at false
abbrev pub jobs_by : Bool → ℕ → List QueueEntry → List ℕ
jobs_by put agent es = jobs_of put (filter (is_own_move agent) es)

-- the line of a reply, if its job found a place
abbrev pub kept_one : ℕ → Option ℕ → List ℕ
kept_one line None = []
kept_one line (Some value) = line ∷ []

-- the lines of the replies whose job found a place, and the lines of all replies
abbrev pub kept_replies : List StageReply → List ℕ
kept_replies [] = []
kept_replies (r ∷ rs) = kept_one r.line r.value ++ kept_replies rs

abbrev pub lines_of : List StageReply → List ℕ
lines_of rs = map (λ (r : StageReply). r.line) rs

-- the replies of this stage, in their order
abbrev pub moves_of : ℕ → List StageReply → List StageReply
moves_of stage moves = filter (λ (r : StageReply). r.stage == stage) moves

-- the job of this line was put with its value at the stage; or it was refused, because there was no node
abbrev pub PlacePart : ℕ → Line → ℕ → ℕ → Option ℕ → QueueShare → Type 0
PlacePart agent line stage job (Some value) share = (at : ℕ) × (share ≡ just (Put agent job at ∷ [])) × IsStageValue line stage value
PlacePart agent line stage job None share = share ≡ refusal queue_refused.NoNode

-- the share is that of a reply of this stage to a line that posts a job
pub record IsPlaceShare (lines : List Line) (stage agent : ℕ) (r : StageReply) (share : QueueShare) : Type 0 where
  pub stage_is : r.stage ≡ stage
  pub item : IsItem lines r.line
  pub part : PlacePart agent item.line stage r.line r.value share

-- what an agent put as this stage between these journals is what these replies stand for, in their order
pub record Placing {A : Type 0} (y : View A QueueEntry QueueRefused) (lines : List Line) (stage agent : ℕ) (replies : List StageReply) (j k : List A)
    : Type 0 where
  pub shares : List QueueShare
  pub table : Pairwise (IsPlaceShare lines stage agent) replies shares
  pub did : DidShares y agent shares j k

-- the posters: one reply to each record, in file order; each poster put what its replies say, beside no agent but those of the run;
-- and no other agent put anything into the first queue
pub record PostersFollow {A : Type 0} (x : View A QueueEntry QueueRefused) (lines : List Line) (posters stages : ℕ) (posts : List PostReply) (k : List A)
    : Type 0 where
  pub order : AreInOrder lines posters 0 posts []
  pub posting : (p : ℕ) → 1 ≤ p → p ≤ posters → Posting (beside x (IsWorker posters stages)) lines p (posts_of p posts) [] k
  pub no_positions : AllByRecursion (λ (r : PostReply). r.what ≢ word.Positions) posts
  pub no_others : (a : ℕ) → (1 ≤ a → a ≤ posters → ⊥) → jobs_by true a (x.history k) ≡ []

-- a stage between two queues: its replies are all Tooks of the first, those that found a place are all Puts of the second, first
-- its worker's and then the caller's, each of its own replies, beside no agent but those of the run; and its worker found the first
-- queue empty if it has fewer replies than there are jobs
pub record StageFollows {A : Type 0} (x y : View A QueueEntry QueueRefused) (lines : List Line) (posters stages stage : ℕ) (replies : List StageReply)
    (k n : List A) : Type 0 where
  pub tooks : jobs_of false (x.history k) ≡ lines_of replies
  pub puts : jobs_of true (y.history n) ≡ kept_replies replies
  pub by_worker : List StageReply
  pub by_caller : List StageReply
  pub are : replies ≡ by_worker ++ by_caller
  pub worker_took : jobs_by false (posters + stage) (x.history k) ≡ lines_of by_worker
  pub caller_took : jobs_by false 0 (x.history k) ≡ lines_of by_caller
  pub worker : Placing (beside y (IsWorker posters stages)) lines stage (posters + stage) by_worker [] n
  pub until : List A
  pub later : IsPrefix until n
  pub caller : Placing (beside y (IsWorker posters stages)) lines stage 0 by_caller [] until
  pub found_empty : length by_worker < jobs_in lines → LastIsEmpty (posters + stage) (x.history k)

-- the journals of the queues 0 to `stages` are those of a pipeline with these replies of posters and of stages 1 to `stages`, and
-- the caller took these jobs out of the last queue, from which nobody else took any
pub record IsPipeline {A : Type 0} (x : ℕ → View A QueueEntry QueueRefused) (lines : List Line) (posters stages : ℕ) (posts : List PostReply)
    (moves : List StageReply) (outs : List ℕ) (k : ℕ → List A) : Type 0 where
  pub legal : (i : ℕ) → i ≤ stages → IsLegalQueue 0 ((x i).history (k i))
  pub empty : (i : ℕ) → i ≤ stages → waiting_after [] ((x i).history (k i)) ≡ []
  pub zero_last : (i : ℕ) → i ≤ stages → ZeroLast agent_of_entry ((x i).history (k i))
  pub posted : PostersFollow (x 0) lines posters stages posts (k 0)
  pub in_order : moves ≡ grouped_by_key (λ (r : StageReply). r.stage) (suc stages) moves
  pub none_of_zero : AllByRecursion (λ (r : StageReply). 1 ≤ r.stage) moves
  pub moved : (i : ℕ) → i < stages → StageFollows (x i) (x (suc i)) lines posters stages (suc i) (moves_of (suc i) moves) (k i) (k (suc i))
  pub outs_are : outs ≡ jobs_of false ((x stages).history (k stages))
  pub caller_took : outs ≡ jobs_by false 0 ((x stages).history (k stages))

-- of pipelines over these queues: where each job found a place at each stage, all jobs come out, in the order in which they were put
abbrev pub AllComeOut : {A : Type 0} → (ℕ → View A QueueEntry QueueRefused) → Type 0
AllComeOut {A = A} x =
    (lines : List Line) (posters stages : ℕ) (posts : List PostReply) (moves : List StageReply) (outs : List ℕ) (k : ℕ → List A)
    → IsPipeline x lines posters stages posts moves outs k → AllByRecursion (λ (r : StageReply). r.value ≢ None) moves
    → outs ≡ jobs_of true ((x 0).history (k 0))
