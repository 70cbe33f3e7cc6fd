-- What a poster and a stage did at their desks, and what desks learn from each other.
use Rattle.std.specs.Prelude.{◌≡◌, ◌≢◌, ℕ, suc, ◌<◌, ◌≤◌, List, [], ◌∷◌, length, map}
use Rattle.orc_history.specs.Journals.{LearnsEntries}
use Rattle.orc_history.specs.QueueHistory.{agent_of_entry}
use Rattle.orc_history.specs.declared.queue.QueueEntry.TheVariants.{Empty}
use Rattle.orc_history.specs.declared.queue.SharedQueue.{Ghosts as QueueOf}
use Rattle.orc_jobs.specs.declared.line.Line.{Line}
use Rattle.orc_jobs.specs.Line.{jobs_in}
use Rattle.orc_board.specs.declared.replies.PostReply.{PostReply}
use Rattle.orc_board.specs.Table.{EndsWith}
use Rattle.orc_history.specs.Lists.{Pairwise}
use Rattle.orc_board.specs.Follows.{own_records}
use Rattle.orc_stages.specs.declared.replies.StageReply.{StageReply}
use Rattle.orc_stages.specs.Desks.{Acts, view_at, seen_at}
use Rattle.orc_stages.specs.Stage.{QueueShare, IsPostShare, StageRow, froms, tos, MoveTable}

-- the first of these passes is one of this queue, and of this agent
abbrev pub HasAgent : {Q P A : Type 0} → QueueOf Q P A → Q → ℕ → List P → Type 0
HasAgent q queue agent [] = ⊥
HasAgent q queue agent (p ∷ ps) = q.agent_of queue p ≡ agent

-- the shares of a poster in each queue are those of these replies to its records, in file order: all of them in the first queue
pub record PosterActs (lines : List Line) (posters agent : ℕ) (posts : List PostReply) (acts : ℕ → List QueueShare) : Type 0 where
  pub table : Pairwise (IsPostShare lines agent) posts (acts 0)
  pub others : (i : ℕ) → i ≢ 0 → acts i ≡ []
  pub in_file_order : map (λ (r : PostReply). r.line) posts ≡ own_records posters agent (length lines)

-- the shares of a stage in each queue are those of these replies: it takes at this place, and puts at the next
pub record StageActs (lines : List Line) (place stage agent : ℕ) (moves : List StageReply) (acts : ℕ → List QueueShare) : Type 0 where
  pub rows : List StageRow
  pub table : MoveTable lines stage agent moves rows
  pub from : acts place ≡ froms rows
  pub to : acts (suc place) ≡ tos rows
  pub others : (i : ℕ) → i ≢ place → i ≢ suc place → acts i ≡ []

-- a poster at its desk did what these replies stand for
pub record PosterDid {Q P A : Type 0} (q : QueueOf Q P A) (queues : List Q) (lines : List Line) (posters agent : ℕ) (old new : List P)
    (posts : List PostReply) : Type 0 where
  pub acts : ℕ → List QueueShare
  pub acted : Acts (view_at q queues) agent acts (seen_at q old) (seen_at q new)
  pub wrote : PosterActs lines posters agent posts acts

-- a stage at its desk did what these replies stand for, and found its queue empty if there are fewer of them than jobs
pub record StageDid {Q P A : Type 0} (q : QueueOf Q P A) (queues : List Q) (lines : List Line) (place stage agent : ℕ) (old new : List P)
    (moves : List StageReply) : Type 0 where
  pub acts : ℕ → List QueueShare
  pub acted : Acts (view_at q queues) agent acts (seen_at q old) (seen_at q new)
  pub wrote : StageActs lines place stage agent moves acts
  pub few : length moves ≤ jobs_in lines
  pub last : length moves < jobs_in lines → EndsWith (view_at q queues place) agent (Empty agent) (seen_at q old place) (seen_at q new place)

-- in each queue two passes learned from each other
abbrev pub LearnEach : {Q P A : Type 0} → QueueOf Q P A → ℕ → ℕ → List Q → List P → List P → List P → List P → Type 0
LearnEach q agent other queues a b a2 b2 =
    (i : ℕ) → LearnsEntries (view_at q queues i).history agent_of_entry agent other (seen_at q a i) (seen_at q b i) (seen_at q a2 i) (seen_at q b2 i)
