-- The table of replies: what a worker did in the three containers for each line and reply.
use Rattle.std.specs.Prelude.{◌≡◌, ◌≢◌, ℕ, List, [], ◌∷◌, ◌++◌, Bool, true, false, not, ◌⊎◌, Option, Some, None, slice_get}
use Rattle.std.specs.List.{AllByRecursion}
use Rattle.orc_history.specs.declared.queue.QueueEntry.{QueueEntry}
use Rattle.orc_history.specs.declared.queue.QueueEntry.TheVariants.{Put, Took, Empty}
use Rattle.orc_history.specs.declared.queue.QueueRefused.{QueueRefused}
use Rattle.orc_history.specs.declared.queue.QueueRefused.TheVariants as queue_refused
use Rattle.orc_history.specs.declared.set.SetEntry.{SetEntry}
use Rattle.orc_history.specs.declared.set.SetEntry.TheVariants.{Added, Removed}
use Rattle.orc_history.specs.declared.set.ListRefused.{ListRefused}
use Rattle.orc_history.specs.declared.set.ListRefused.TheVariants as list_refused
use Rattle.orc_fault.specs.declared.Spent.{Spent}
use Rattle.orc_history.specs.QueueHistory.{agent_of_entry}
use Rattle.orc_jobs.specs.declared.line.Job.{Job}
use Rattle.orc_jobs.specs.declared.line.Line.{Line}
use Rattle.orc_jobs.specs.declared.line.Line.TheVariants as line
use Rattle.orc_jobs.specs.Line.{job_line}
use Rattle.orc_jobs.specs.JobValue.{IsJobValue}
use Rattle.orc_board.specs.declared.replies.PostWord.{PostWord}
use Rattle.orc_board.specs.declared.replies.PostWord.TheVariants as word
use Rattle.orc_board.specs.declared.replies.TakeWord.{TakeWord}
use Rattle.orc_board.specs.declared.replies.TakeWord.TheVariants as take
use Rattle.orc_board.specs.declared.replies.TakeReply.{TakeReply}
use Rattle.orc_board.specs.Stretches.{Row, Share, View, Stretch, Did, of_queue, of_set, just, nothing, refusal}

-- what the replies to a line i that posts a job with this id say of the job's queue and of the set
abbrev pub JobPart : ℕ → ℕ → ℕ → PostWord → Share QueueEntry QueueRefused → Share SetEntry ListRefused → Type 0
JobPart agent i id (word.Posted at) queue set = (queue ≡ just (Put agent i at ∷ [])) × (set ≡ just (Added agent id true ∷ []))
JobPart agent i id (word.Rushed at) queue set = (queue ≡ just (Put agent i at ∷ [])) × (set ≡ just (Added agent id true ∷ []))
JobPart agent i id word.Busy queue set = (queue ≡ nothing) × (set ≡ just (Added agent id false ∷ []))
JobPart agent i id word.NoNode queue set =
    ((queue ≡ nothing) × (set ≡ refusal list_refused.NoNode))
    ⊎ ((queue ≡ refusal queue_refused.NoNode) × ((gone : Bool) × (set ≡ just (Added agent id true ∷ Removed agent id gone ∷ []))))
JobPart agent i id word.Positions queue set =
    (queue ≡ refusal queue_refused.Positions) × ((gone : Bool) × (set ≡ just (Added agent id true ∷ Removed agent id gone ∷ [])))
JobPart agent i id word.Spent queue set = (queue ≡ nothing) × ((worn : Spent) × (set ≡ refusal (list_refused.Spent worn)))
JobPart agent i id word.Dropped queue set = ⊥
JobPart agent i id word.Unknown queue set = ⊥
JobPart agent i id word.Skipped queue set = ⊥

-- a job of the queue isn't rushed, and one of the rush queue isn't posted
abbrev pub IsWordOf : Bool → PostWord → Type 0
IsWordOf false (word.Rushed at) = ⊥
IsWordOf true (word.Posted at) = ⊥
IsWordOf rush w = Unit {0}

-- the word for a job that was put at this position
abbrev pub IsPlacedAt : Bool → ℕ → PostWord → Type 0
IsPlacedAt false at w = w ≡ word.Posted at
IsPlacedAt true at w = w ≡ word.Rushed at

-- the rows of the replies to a line i that posts a job with this id, on the rush queue or on the queue: none in the other queue
pub record JobRow (rush : Bool) (agent i id : ℕ) (what : PostWord) (row : Row) : Type 0 where
  pub word : IsWordOf rush what
  pub part : JobPart agent i id what (row.queues rush) row.set
  pub other : row.queues (not rush) ≡ nothing

-- the rows of the replies to a line that drops the opening of this id: none in either queue
abbrev pub DropPart : ℕ → ℕ → PostWord → Share SetEntry ListRefused → Type 0
DropPart agent id word.Dropped set = set ≡ just (Removed agent id true ∷ [])
DropPart agent id word.Unknown set = set ≡ just (Removed agent id false ∷ [])
DropPart agent id w set = ⊥

pub record DropRow (agent id : ℕ) (what : PostWord) (row : Row) : Type 0 where
  pub part : DropPart agent id what row.set
  pub none : (rush : Bool) → row.queues rush ≡ nothing

-- the rows of the replies to line i
abbrev pub PostRow : ℕ → ℕ → Line → PostWord → Row → Type 0
PostRow agent i (line.Post id op text) what row = JobRow false agent i id what row
PostRow agent i (line.Rush id op text) what row = JobRow true agent i id what row
PostRow agent i (line.Drop id) what row = DropRow agent id what row

-- the line with this number posts a job with this id, on the rush queue or on the queue
pub record IsJob (lines : List Line) (rush : Bool) (job id : ℕ) : Type 0 where
  pub op : Job
  pub text : List ℕ
  pub is : slice_get lines job ≡ Some (job_line rush id op text)

-- no line with this number posts a job there
pub record IsNoJob (lines : List Line) (rush : Bool) (job : ℕ) : Type 0 where
  pub none : (id : ℕ) (op : Job) (text : List ℕ) → slice_get lines job ≡ Some (job_line rush id op text) → ⊥

-- the line posts a job with this id on the rush queue, or on the queue
pub record PostsWithId (l : Line) (rush : Bool) (id : ℕ) : Type 0 where
  pub op : Job
  pub text : List ℕ
  pub is : l ≡ job_line rush id op text

-- the line posts no job there
pub record PostsNone (l : Line) (rush : Bool) : Type 0 where
  pub none : (id : ℕ) (op : Job) (text : List ℕ) → l ≡ job_line rush id op text → ⊥

-- what the remove of a claim answered
abbrev pub claim_answer : TakeWord → Bool
claim_answer (take.Done value) = true
claim_answer take.Void = false

-- a Done has the value of the line with this number
abbrev pub HasValue : List Line → ℕ → TakeWord → Type 0
HasValue lines i (take.Done value) = (l : Line) × (slice_get lines i ≡ Some l) × IsJobValue l value
HasValue lines i take.Void = Unit {0}

-- these entries in the queue that is meant, and none in the other
abbrev pub in_its : Bool → List QueueEntry → Bool → List QueueEntry
in_its false es false = es
in_its false es true = []
in_its true es false = []
in_its true es true = es

-- the row of a claim of line i at this position: these Tooks, then its own in the queue that gave it, and the Removed of its id
pub record ClaimRow (lines : List Line) (agent : ℕ) (ahead : Bool → List QueueEntry) (rush : Bool) (i at : ℕ) (what : TakeWord) (row : Row) : Type 0 where
  pub id : ℕ
  pub job : IsJob lines rush i id
  pub value : HasValue lines i what
  pub queues : (b : Bool) → row.queues b ≡ just (ahead b ++ in_its rush (Took agent i at ∷ []) b)
  pub set : row.set ≡ just (Removed agent id (claim_answer what) ∷ [])

-- a Took of a job that no line posts there, which is passed over
pub record IsSkip (lines : List Line) (rush : Bool) (agent : ℕ) (e : QueueEntry) : Type 0 where
  pub job : ℕ
  pub at : ℕ
  pub is : e ≡ Took agent job at
  pub none : IsNoJob lines rush job

-- in each queue only Tooks that are passed over
abbrev pub AreSkips : List Line → ℕ → (Bool → List QueueEntry) → Type 0
AreSkips lines agent skipped = (rush : Bool) → AllByRecursion (IsSkip lines rush agent) (skipped rush)

-- the row of a take that claimed line i, after the jobs that it passed over
pub record TakeRow (lines : List Line) (agent : ℕ) (rush : Bool) (i at : ℕ) (what : TakeWord) (row : Row) : Type 0 where
  pub skipped : Bool → List QueueEntry
  pub skips : AreSkips lines agent skipped
  pub claim : ClaimRow lines agent skipped rush i at what row

-- the row of a take that found nothing: only jobs that were passed over
pub record SkipRow (lines : List Line) (agent : ℕ) (row : Row) : Type 0 where
  pub skipped : Bool → List QueueEntry
  pub skips : AreSkips lines agent skipped
  pub queues : (rush : Bool) → row.queues rush ≡ just (skipped rush)
  pub set : row.set ≡ nothing

-- the rows of what a take answered
abbrev pub TakenRow : List Line → ℕ → Option TakeReply → Row → Type 0
TakenRow lines agent None row = SkipRow lines agent row
TakenRow lines agent (Some r) row = TakeRow lines agent r.rush r.line r.at r.what row

-- the Took of what a dequeue answered, if it took a job
abbrev pub took_of : ℕ → Option (ℕ × ℕ) → List QueueEntry
took_of agent None = []
took_of agent (Some got) = Took agent got.0 got.1 ∷ []

-- what was taken next, and from which queue: its Took
abbrev pub next_of : ℕ → Option (Bool × ℕ × ℕ) → Bool → List QueueEntry
next_of agent None rush = []
next_of agent (Some got) rush = in_its got.0 (Took agent got.1 got.2 ∷ []) rush

-- the claim of line i has its value, and its opening was closed
pub record Closes {B : Type 0} (s : View B SetEntry ListRefused) (lines : List Line) (agent id i : ℕ) (what : TakeWord) (m n : List B) : Type 0 where
  pub set : Stretch of_set s agent (Removed agent id (claim_answer what) ∷ []) m n
  pub value : HasValue lines i what

-- from the journal j to k this entry is the agent's last, and after it only others have entries
pub record EndsWith {A : Type 0} (q : View A QueueEntry QueueRefused) (agent : ℕ) (entry : QueueEntry) (j k : List A) : Type 0 where
  pub front : List QueueEntry
  pub back : List QueueEntry
  pub is : q.history k ≡ q.history j ++ (front ++ entry ∷ back)
  pub others : AllByRecursion (λ e. (agent_of_entry e ≢ agent) × q.crowd (agent_of_entry e)) back

-- a job from this queue was the last that the agent took there; and if the queue gave it, the rush queue had been found empty
pub record TookLast {A : Type 0} (qs : Bool → View A QueueEntry QueueRefused) (agent : ℕ) (rush : Bool) (job at : ℕ) (j k : Bool → List A) : Type 0 where
  pub took : EndsWith (qs rush) agent (Took agent job at) (j rush) (k rush)
  pub rush_first : rush ≡ false → EndsWith (qs true) agent (Empty agent) (j true) (k true)

-- which queue gave the job of a take, the job, and its position
abbrev pub taken_of : Option TakeReply → Option (Bool × ℕ × ℕ)
taken_of None = None
taken_of (Some r) = Some (r.rush, r.line, r.at)

-- the agent's last entries once it has asked the rush queue and then the queue: an Empty in each where neither gave a job
abbrev pub TakeEnds : {A : Type 0} → (Bool → View A QueueEntry QueueRefused) → ℕ → Option (Bool × ℕ × ℕ) → (Bool → List A) → (Bool → List A) → Type 0
TakeEnds qs agent None j k = (rush : Bool) → EndsWith (qs rush) agent (Empty agent) (j rush) (k rush)
TakeEnds qs agent (Some got) j k = TookLast qs agent got.0 got.1 got.2 j k

-- the agent took from the rush queue, or else from the queue, or found both empty
pub record Next {A : Type 0} (qs : Bool → View A QueueEntry QueueRefused) (agent : ℕ) (answer : Option (Bool × ℕ × ℕ)) (j k : Bool → List A) : Type 0 where
  pub stretches : (rush : Bool) → Stretch of_queue (qs rush) agent (next_of agent answer rush) (j rush) (k rush)
  pub last : TakeEnds qs agent answer j k

-- what one call did in one queue and in the set
pub record Opened {A B : Type 0} (q : View A QueueEntry QueueRefused) (s : View B SetEntry ListRefused)
    (parts : Share QueueEntry QueueRefused → Share SetEntry ListRefused → Type 0) (worker : ℕ) (j : List A) (m : List B)
    (k : List A) (n : List B) : Type 0 where
  pub queue : Share QueueEntry QueueRefused
  pub set : Share SetEntry ListRefused
  pub is : parts queue set
  pub in_queue : Did of_queue q worker queue j k
  pub in_set : Did of_set s worker set m n

-- what one call did in the set
pub record Dropped {B : Type 0} (s : View B SetEntry ListRefused) (parts : Share SetEntry ListRefused → Type 0) (worker : ℕ) (m n : List B) : Type 0 where
  pub set : Share SetEntry ListRefused
  pub is : parts set
  pub in_set : Did of_set s worker set m n
