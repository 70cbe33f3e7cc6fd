-- What the caller moves once all workers are back, and what it takes out of the last queue.
use Rattle.std.specs.Prelude.{◌≡◌, ◌≢◌, ℕ, suc, ◌+◌, ◌<◌, List, [], ◌∷◌, ◌++◌, length, true, false}
use Rattle.std.proofs.Common.{zero}
use Rattle.orc_history.specs.declared.queue.QueueEntry.TheVariants.{Empty}
use Rattle.orc_history.specs.declared.queue.SharedQueue.{Ghosts as QueueOf}
use Rattle.orc_jobs.specs.declared.line.Line.{Line}
use Rattle.orc_board.specs.ListWithRoom.{ListWithRoom}
use Rattle.orc_board.specs.Stretches.{queue_view}
use Rattle.orc_board.specs.Table.{EndsWith}
use Rattle.orc_stages.specs.declared.replies.StageReply.{StageReply}
use Rattle.orc_stages.specs.Stage.{QueueShare, DidShares, StageRow, froms, tos, MoveTable, jobs_of, own_of_shares}
use Rattle.orc_stages.specs.Desks.{StageWorker, Acts, view_at, seen_at}

-- the worker with these replies more, within the room that it had
pub record MovedFor {P : Type 0} (more : List StageReply) (w v : StageWorker P) : Type 0 where
  pub agent_is : v.agent ≡ w.agent
  pub desk_is : v.desk ≡ w.desk
  pub posts_are : v.replies.posts ≡ w.replies.posts
  pub moves_are : v.replies.takes.items ≡ w.replies.takes.items ++ more
  pub spare : length v.replies.takes.items + v.replies.takes.spare ≡ length w.replies.takes.items + w.replies.takes.spare

-- so each of these workers, the one at a place with the replies of that place
abbrev pub AllMovedFor : {P : Type 0} → (ℕ → List StageReply) → List (StageWorker P) → List (StageWorker P) → Type 0
AllMovedFor more [] [] = Unit {0}
AllMovedFor more [] (v ∷ vs) = ⊥
AllMovedFor more (w ∷ ws) [] = ⊥
AllMovedFor more (w ∷ ws) (v ∷ vs) = MovedFor (more 0) w v × AllMovedFor (λ i. more (suc i)) ws vs

-- how much room the worker at a place has left
abbrev pub spare_at : {P : Type 0} → List (StageWorker P) → ℕ → ℕ
spare_at [] i = 0
spare_at (w ∷ ws) zero = w.replies.takes.spare
spare_at (w ∷ ws) (suc i) = spare_at ws i

-- the caller as the stages of these numbers: what it put into each queue, and what it then took from it; these replies are those of
-- the stages, each of which takes at its place and puts at the next; and these jobs came out at the last place
pub record CallerActs (lines : List Line) (stage stages agent : ℕ) (more : ℕ → List StageReply) (outs : List ℕ)
    (gave took : ℕ → List QueueShare) : Type 0 where
  pub rows : ℕ → List StageRow
  pub table : (i : ℕ) → i < stages → MoveTable lines (stage + i) agent (more i) (rows i)
  pub none_first : gave 0 ≡ []
  pub from : (i : ℕ) → i < stages → took i ≡ froms (rows i)
  pub to : (i : ℕ) → i < stages → gave (suc i) ≡ tos (rows i)
  pub tooks : jobs_of false (own_of_shares (took stages)) ≡ outs
  pub puts : jobs_of true (own_of_shares (took stages)) ≡ []

-- the caller moved what was left for these workers, the stages from this number on, and took what came out; each queue was found
-- empty unless the room was used up
pub record CallerMoved {Q P A : Type 0} (q : QueueOf Q P A) (queues : List Q) (lines : List Line) (stage agent : ℕ) (old new : List P)
    (ws vs : List (StageWorker P)) (outs : ListWithRoom ℕ) : Type 0 where
  pub more : ℕ → List StageReply
  pub moved : AllMovedFor more ws vs
  pub gave : ℕ → List QueueShare
  pub took : ℕ → List QueueShare
  pub acts : CallerActs lines stage (length ws) agent more outs.items gave took
  pub acted : Acts (view_at q queues) agent (λ i. gave i ++ took i) (seen_at q old) (seen_at q new)
  pub ended : (i : ℕ) → i < length ws → spare_at vs i ≢ 0 → EndsWith (view_at q queues i) agent (Empty agent) (seen_at q old i) (seen_at q new i)
  pub outs_ended : outs.spare ≢ 0
      → EndsWith (view_at q queues (length ws)) agent (Empty agent) (seen_at q old (length ws)) (seen_at q new (length ws))

-- the caller moved what was left in the first queue into the next one
pub record MovedBetween {Q P A : Type 0} (q : QueueOf Q P A) (queue : Q) (more : List Q) (lines : List Line) (stage agent : ℕ) (p : P) (rest : List P)
    (p2 : P) (rest2 : List P) (before after : ListWithRoom StageReply) : Type 0 where
  pub new : List StageReply
  pub is : after.items ≡ before.items ++ new
  pub spare : length after.items + after.spare ≡ length before.items + before.spare
  pub rows : List StageRow
  pub table : MoveTable lines stage agent new rows
  pub from : DidShares (queue_view q queue) agent (froms rows) (q.journal p) (q.journal p2)
  pub to : DidShares (view_at q more 0) agent (tos rows) (seen_at q rest 0) (seen_at q rest2 0)
  pub others : (i : ℕ) → seen_at q rest2 (suc i) ≡ seen_at q rest (suc i)
  pub last : after.spare ≢ 0 → EndsWith (queue_view q queue) agent (Empty agent) (q.journal p) (q.journal p2)
