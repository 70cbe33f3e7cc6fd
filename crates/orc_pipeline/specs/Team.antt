-- Workers before and after their work.
use Rattle.std.specs.Prelude.{◌≡◌, ℕ, suc, ◌+◌, ◌<◌, ◌≤◌, List, [], length}
use Rattle.orc_history.specs.declared.queue.QueueEntry.{QueueEntry}
use Rattle.orc_history.specs.declared.queue.QueueRefused.{QueueRefused}
use Rattle.orc_history.specs.declared.queue.SharedQueue.{Ghosts as QueueOf}
use Rattle.orc_jobs.specs.declared.line.Line.{Line}
use Rattle.orc_jobs.specs.Line.{jobs_in}
use Rattle.orc_jobs.specs.GoodLines.{AreGood}
use Rattle.orc_board.specs.declared.replies.PostReply.{PostReply}
use Rattle.orc_board.specs.Stretches.{View}
use Rattle.orc_board.specs.Follows.{LastIsEmpty, own_records}
use Rattle.orc_stages.specs.declared.replies.StageReply.{StageReply}
use Rattle.orc_stages.specs.Stage.{QueueShare}
use Rattle.orc_stages.specs.Desks.{StageWorker, ArePasses, Acts, view_at, seen_at}
use Rattle.orc_pipeline.specs.Desks.{PosterActs, StageActs}

-- a worker that may begin: no caller, with a pass of each queue, and with room for all that it may reply
pub record IsReady {Q P A : Type 0} (q : QueueOf Q P A) (queues : List Q) (lines : List Line) (posters : ℕ) (w : StageWorker P) : Type 0 where
  pub good : AreGood lines
  pub no_caller : 1 ≤ w.agent
  pub in_run : w.agent < posters + length queues
  pub few : (2 ≤ length queues) × (length queues ≤ 7)
  pub passes : ArePasses q w.agent queues w.desk.passes.items
  pub no_posts : w.replies.posts.items ≡ []
  pub no_moves : w.replies.takes.items ≡ []
  pub post_room : w.agent ≤ posters → length (own_records posters w.agent (length lines)) ≤ w.replies.posts.spare
  pub move_room : posters < w.agent → jobs_in lines ≤ w.replies.takes.spare

-- what a poster or a stage did between the journals j and k, as its replies tell; a stage is that of its number behind the posters
pub record ToldByReplies {A : Type 0} (x : ℕ → View A QueueEntry QueueRefused) (lines : List Line) (posters agent : ℕ) (posts : List PostReply)
    (moves : List StageReply) (j k : ℕ → List A) : Type 0 where
  pub acts : ℕ → List QueueShare
  pub acted : Acts x agent acts j k
  pub posted : agent ≤ posters → PosterActs lines posters agent posts acts × (moves ≡ [])
  pub moved : (place : ℕ) → agent ≡ posters + suc place → StageActs lines place (suc place) agent moves acts × (posts ≡ [])
  pub found_empty : (place : ℕ) → agent ≡ posters + suc place → length moves < jobs_in lines → LastIsEmpty agent ((x place).history (k place))

-- what a worker has become by its work
pub record DidWork {Q P A : Type 0} (q : QueueOf Q P A) (queues : List Q) (lines : List Line) (posters : ℕ) (w v : StageWorker P) : Type 0 where
  pub agent_is : v.agent ≡ w.agent
  pub no_caller : 1 ≤ v.agent
  pub passes : ArePasses q v.agent queues v.desk.passes.items
  pub told : ToldByReplies (view_at q queues) lines posters v.agent v.replies.posts.items v.replies.takes.items (seen_at q w.desk.passes.items) (seen_at q v.desk.passes.items)
  pub spare : length v.replies.takes.items + v.replies.takes.spare ≡ w.replies.takes.spare
