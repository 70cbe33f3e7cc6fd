-- What one poster and one stage of a pipeline do: a poster puts the jobs of its lines into the first queue, and a stage takes jobs
-- from one queue and puts them into the next.
use Rattle.std.specs.Prelude.{◌≡◌, ◌*◌, ℕ, Bool, true, false, cond, List, [], ◌∷◌, ◌++◌, map, ◌⊎◌, Option, Some, None, slice_get}
use Rattle.orc_history.specs.declared.queue.QueueEntry.{QueueEntry}
use Rattle.orc_history.specs.declared.queue.QueueEntry.TheVariants.{Put, Took, Empty}
use Rattle.orc_history.specs.declared.queue.QueueRefused.{QueueRefused}
use Rattle.orc_history.specs.declared.queue.QueueRefused.TheVariants as queue_refused
use Rattle.orc_jobs.specs.declared.line.Line.{Line}
use Rattle.orc_jobs.specs.declared.line.Line.TheVariants as line
use Rattle.orc_jobs.specs.Line.{PostsJob}
use Rattle.orc_jobs.specs.JobValue.{IsJobValue}
use Rattle.orc_board.specs.declared.replies.PostReply.{PostReply}
use Rattle.orc_board.specs.declared.replies.PostWord.{PostWord}
use Rattle.orc_board.specs.declared.replies.PostWord.TheVariants as word
use Rattle.orc_board.specs.Stretches.{View, Share, Did, DidAll, of_queue, just, nothing, refusal}
use Rattle.orc_history.specs.Lists.{Pairwise}
use Rattle.orc_stages.specs.declared.replies.StageReply.{StageReply}

-- what an agent did in a queue is told by shares: its own entries that count, or a refusal
abbrev pub QueueShare : Type 0
QueueShare = Share QueueEntry QueueRefused

-- from the journal j to k these shares of an agent stand one after another
abbrev pub DidShares : {A : Type 0} → View A QueueEntry QueueRefused → ℕ → List QueueShare → List A → List A → Type 0
DidShares x agent shares j k = DidAll of_queue x agent (λ (share : QueueShare). share) shares j k

-- what a line is worth at a stage: its value times the number of the stage
abbrev pub IsStageValue : Line → ℕ → ℕ → Type 0
IsStageValue line stage value = (worth : ℕ) × IsJobValue line worth × (value ≡ worth * stage)

-- the line with this number posts a job
pub record IsItem (lines : List Line) (job : ℕ) : Type 0 where
  pub line : Line
  pub is : slice_get lines job ≡ Some line
  pub posts : PostsJob line

-- no line with this number does
pub record IsNoItem (lines : List Line) (job : ℕ) : Type 0 where
  pub none : (line : Line) → slice_get lines job ≡ Some line → PostsJob line → ⊥

-- what a poster's reply to a line i that posts a job says of the first queue
abbrev pub ItemPart : ℕ → ℕ → PostWord → QueueShare → Type 0
ItemPart agent i (word.Posted at) share = share ≡ just (Put agent i at ∷ [])
ItemPart agent i (word.Rushed at) share = ⊥
ItemPart agent i word.Busy share = ⊥
ItemPart agent i word.NoNode share = share ≡ refusal queue_refused.NoNode
ItemPart agent i word.Positions share = share ≡ refusal queue_refused.Positions
ItemPart agent i word.Spent share = ⊥
ItemPart agent i word.Dropped share = ⊥
ItemPart agent i word.Unknown share = ⊥
ItemPart agent i word.Skipped share = ⊥

-- what its reply to line i says of the first queue: a line that drops an id is skipped
abbrev pub PostPart : ℕ → ℕ → Line → PostWord → QueueShare → Type 0
PostPart agent i (line.Post id op text) what share = ItemPart agent i what share
PostPart agent i (line.Rush id op text) what share = ItemPart agent i what share
PostPart agent i (line.Drop id) what share = (what ≡ word.Skipped) × (share ≡ nothing)

-- the share is that of this poster's reply to its line
pub record IsPostShare (lines : List Line) (poster : ℕ) (r : PostReply) (share : QueueShare) : Type 0 where
  pub poster_is : r.poster ≡ poster
  pub line : Line
  pub is : slice_get lines r.line ≡ Some line
  pub part : PostPart poster r.line line r.what share

-- what a poster did in the first queue between these journals is what these replies stand for, in their order
pub record Posting {A : Type 0} (x : View A QueueEntry QueueRefused) (lines : List Line) (poster : ℕ) (replies : List PostReply) (j k : List A) : Type 0 where
  pub shares : List QueueShare
  pub table : Pairwise (IsPostShare lines poster) replies shares
  pub did : DidShares x poster shares j k

-- what one step of a stage says of the queue that it takes from, and of the queue that it puts into
pub record StageRow : Type 0 where
  pub from : QueueShare
  pub to : QueueShare

abbrev pub froms : List StageRow → List QueueShare
froms rows = map (λ (row : StageRow). row.from) rows

abbrev pub tos : List StageRow → List QueueShare
tos rows = map (λ (row : StageRow). row.to) rows

-- a job that is passed over
pub record IsSkipRow (lines : List Line) (agent : ℕ) (row : StageRow) : Type 0 where
  pub job : ℕ
  pub at : ℕ
  pub no_item : IsNoItem lines job
  pub from : row.from ≡ just (Took agent job at ∷ [])
  pub to : row.to ≡ nothing

-- a refusal that a stage tells as no value
abbrev pub IsNoPlace : QueueRefused → Type 0
IsNoPlace why = (why ≡ queue_refused.NoNode) ⊎ (why ≡ queue_refused.Positions)

-- where the job of this line was put, with its value at the stage; or that it found no place
abbrev pub PutOf : ℕ → Line → ℕ → ℕ → Option ℕ → QueueShare → Type 0
PutOf agent line stage job (Some value) to = (at : ℕ) × (to ≡ just (Put agent job at ∷ [])) × IsStageValue line stage value
PutOf agent line stage job None to = (why : QueueRefused) × (to ≡ refusal why) × IsNoPlace why

-- the job of a line was put with this value, or found no place
pub record PutInto {A : Type 0} (y : View A QueueEntry QueueRefused) (lines : List Line) (stage agent job : ℕ) (value : Option ℕ) (m n : List A) : Type 0 where
  pub item : IsItem lines job
  pub to : QueueShare
  pub put : PutOf agent item.line stage job value to
  pub did : Did of_queue y agent to m n

-- the row of a reply
pub record IsMoveRow (lines : List Line) (stage agent : ℕ) (r : StageReply) (row : StageRow) : Type 0 where
  pub stage_is : r.stage ≡ stage
  pub item : IsItem lines r.line
  pub at : ℕ
  pub from : row.from ≡ just (Took agent r.line at ∷ [])
  pub to : PutOf agent item.line stage r.line r.value row.to

-- these rows are those of the replies, in their order, and of jobs that were passed over
abbrev pub MoveTable : List Line → ℕ → ℕ → List StageReply → List StageRow → Type 0
MoveTable lines stage agent replies [] = replies ≡ []
MoveTable lines stage agent replies (row ∷ rows) =
    (IsSkipRow lines agent row × MoveTable lines stage agent replies rows)
    ⊎ ((r : StageReply) × (rs : List StageReply) × (replies ≡ r ∷ rs) × IsMoveRow lines stage agent r row × MoveTable lines stage agent rs rows)

-- what an agent did as this stage between these journals of the two queues is what these replies stand for
pub record Moving {A : Type 0} (x y : View A QueueEntry QueueRefused) (lines : List Line) (stage agent : ℕ) (replies : List StageReply)
    (j m k n : List A) : Type 0 where
  pub rows : List StageRow
  pub table : MoveTable lines stage agent replies rows
  pub from : DidShares x agent (froms rows) j k
  pub to : DidShares y agent (tos rows) m n

-- the jobs of the Puts of a history, at true, or those of its Tooks, at false, in order
abbrev pub jobs_of : Bool → List QueueEntry → List ℕ
jobs_of put [] = []
jobs_of put (Put agent job at ∷ es) = cond put (job ∷ jobs_of put es) (jobs_of put es)
jobs_of put (Took agent job at ∷ es) = cond put (jobs_of put es) (job ∷ jobs_of put es)
jobs_of put (Empty agent ∷ es) = jobs_of put es

-- the own entries of some shares, one after another
abbrev pub own_of_shares : List QueueShare → List QueueEntry
own_of_shares [] = []
own_of_shares (share ∷ shares) = share.own ++ own_of_shares shares

-- these jobs were taken between the two journals, and nothing was put
pub record TookAlone {A : Type 0} (x : View A QueueEntry QueueRefused) (agent : ℕ) (outs : List ℕ) (j k : List A) : Type 0 where
  pub shares : List QueueShare
  pub did : DidShares x agent shares j k
  pub tooks : jobs_of false (own_of_shares shares) ≡ outs
  pub puts : jobs_of true (own_of_shares shares) ≡ []
