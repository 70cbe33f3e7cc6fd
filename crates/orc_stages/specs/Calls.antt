-- What the contracts of posters and stages say of the passes of a call, before it and after it.
use Rattle.std.specs.Prelude.{◌≡◌, ℕ, List, [], ◌∷◌, ◌++◌, Option, Some, None}
use Rattle.orc_history.specs.declared.queue.QueueEntry.{QueueEntry}
use Rattle.orc_history.specs.declared.queue.QueueRefused.{QueueRefused}
use Rattle.orc_history.specs.declared.queue.SharedQueue.{Ghosts as QueueOf}
use Rattle.orc_jobs.specs.declared.line.Line.{Line}
use Rattle.orc_board.specs.declared.replies.PostReply.{PostReply}
use Rattle.orc_board.specs.declared.replies.PostWord.{PostWord}
use Rattle.orc_board.specs.Stretches.{View, Did, of_queue, queue_view}
use Rattle.orc_stages.specs.declared.replies.StageReply.{StageReply}
use Rattle.orc_stages.specs.Stage.{QueueShare, PostPart, Posting, PutInto, Moving, TookAlone}

-- idle passes of these two queues, both of this agent
pub record AreStagePasses {Q P A : Type 0} (q : QueueOf Q P A) (from to : Q) (agent : ℕ) (p r : P) : Type 0 where
  pub from_pass : q.usable from p
  pub to_pass : q.usable to r
  pub from_agent : q.agent_of from p ≡ agent
  pub to_agent : q.agent_of to r ≡ agent

-- what a poster did with line i
pub record Posted {A : Type 0} (x : View A QueueEntry QueueRefused) (agent i : ℕ) (line : Line) (what : PostWord) (j k : List A) : Type 0 where
  pub share : QueueShare
  pub part : PostPart agent i line what share
  pub did : Did of_queue x agent share j k

-- the call did with line i what this word says
abbrev pub PostsItem : {Q P A : Type 0} → QueueOf Q P A → Q → P → P → ℕ → Line → PostWord → Type 0
PostsItem q queue p p2 i line what = Posted (queue_view q queue) (q.agent_of queue p) i line what (q.journal p) (q.journal p2)

-- these replies are all that the poster did
abbrev pub PostsItems : {Q P A : Type 0} → QueueOf Q P A → Q → List Line → ℕ → P → P → List PostReply → Type 0
PostsItems q queue lines poster p p2 replies = Posting (queue_view q queue) lines poster replies (q.journal p) (q.journal p2)

-- the call put this job, with this value, or the job found no place
abbrev pub PutsItem : {Q P A : Type 0} → QueueOf Q P A → Q → List Line → ℕ → P → P → ℕ → Option ℕ → Type 0
PutsItem q to lines stage r r2 job value = PutInto (queue_view q to) lines stage (q.agent_of to r) job value (q.journal r) (q.journal r2)

-- these replies are all that the agent of the first pass did as this stage
abbrev pub Moves : {Q P A : Type 0} → QueueOf Q P A → Q → Q → List Line → ℕ → P → P → P → P → List StageReply → Type 0
Moves q from to lines stage p r p2 r2 replies =
    Moving (queue_view q from) (queue_view q to) lines stage (q.agent_of from p) replies (q.journal p) (q.journal r) (q.journal p2) (q.journal r2)

abbrev pub one_or_none : Option StageReply → List StageReply
one_or_none None = []
one_or_none (Some r) = r ∷ []

-- this reply, if there is one, is all that it did
abbrev pub MovesOne : {Q P A : Type 0} → QueueOf Q P A → Q → Q → List Line → ℕ → P → P → P → P → Option StageReply → Type 0
MovesOne q from to lines stage p r p2 r2 answer = Moves q from to lines stage p r p2 r2 (one_or_none answer)

-- the replies that were appended are all that it did
pub record MovesMore {Q P A : Type 0} (q : QueueOf Q P A) (from to : Q) (lines : List Line) (stage : ℕ) (p r p2 r2 : P) (before after : List StageReply) : Type 0 where
  pub more : List StageReply
  pub is : after ≡ before ++ more
  pub moves : Moves q from to lines stage p r p2 r2 more

-- these jobs are all that the pass's agent took, and it put none
abbrev pub TakesOnly : {Q P A : Type 0} → QueueOf Q P A → Q → P → P → List ℕ → Type 0
TakesOnly q queue p p2 outs = TookAlone (queue_view q queue) (q.agent_of queue p) outs (q.journal p) (q.journal p2)
