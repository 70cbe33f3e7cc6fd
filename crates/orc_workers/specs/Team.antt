-- Workers before and after their work.
use Rattle.std.specs.Prelude.{◌≡◌, ℕ, Bool, ◌-◌, ◌<◌, ◌≤◌, List, [], length, map}
use Rattle.orc_history.specs.declared.queue.QueueEntry.{QueueEntry}
use Rattle.orc_history.specs.declared.queue.QueueRefused.{QueueRefused}
use Rattle.orc_history.specs.declared.queue.SharedQueue.{Ghosts as QueueOf}
use Rattle.orc_history.specs.declared.set.SetEntry.{SetEntry}
use Rattle.orc_history.specs.declared.set.ListRefused.{ListRefused}
use Rattle.orc_history.specs.declared.set.SharedSet.{Ghosts as SetOf}
use Rattle.orc_jobs.specs.declared.line.Line.{Line}
use Rattle.orc_jobs.specs.Line.{jobs_in}
use Rattle.orc_jobs.specs.GoodLines.{AreGood}
use Rattle.orc_board.specs.declared.replies.PostReply.{PostReply}
use Rattle.orc_board.specs.declared.replies.TakeReply.{TakeReply}
use Rattle.orc_board.specs.declared.desk.Desk.{Desk}
use Rattle.orc_team.specs.declared.rooms.Room.{Room}
use Rattle.orc_team.specs.declared.team.Worker.{Worker}
use Rattle.orc_board.specs.Desk.{IsDesk, seen_in}
use Rattle.orc_board.specs.Stretches.{View, queue_views, set_view}
use Rattle.orc_board.specs.Follows.{Posting, TakingRest, LastIsEmpty, own_records}

-- a poster or a taker
abbrev pub BoardWorker : Type 0 → Type 0 → Type 0
BoardWorker P R = Worker (Desk P R) (Room TakeReply)

-- a worker that may begin: no caller, at a desk of its own, with room for all that it may reply
pub record IsReady {Q S P R A B : Type 0} (q : QueueOf Q P A) (s : SetOf S R B) (queue rush : Q) (set : S) (lines : List Line) (posters : ℕ)
    (w : BoardWorker P R) : Type 0 where
  pub good : AreGood lines
  pub no_caller : 1 ≤ w.agent
  pub desk : IsDesk q s queue rush set w.agent w.desk
  pub no_posts : w.replies.posts.items ≡ []
  pub no_takes : w.replies.takes.items ≡ []
  pub post_room : w.agent ≤ posters → length (own_records posters w.agent (length lines)) ≤ w.replies.posts.spare
  pub take_room : posters < w.agent → jobs_in lines ≤ w.replies.takes.spare

-- what a poster did between these journals
pub record DidPost {A B : Type 0} (qs : Bool → View A QueueEntry QueueRefused) (s : View B SetEntry ListRefused) (lines : List Line) (posters agent : ℕ)
    (posts : List PostReply) (takes : List TakeReply) (j : Bool → List A) (m : List B) (k : Bool → List A) (n : List B) : Type 0 where
  pub posting : Posting qs s lines agent posts j m k n
  pub in_file_order : map (λ (r : PostReply). r.line) posts ≡ own_records posters agent (length lines)
  pub no_takes : takes ≡ []

-- what a taker did between these journals
pub record DidTake {A B : Type 0} (qs : Bool → View A QueueEntry QueueRefused) (s : View B SetEntry ListRefused) (lines : List Line) (posters agent : ℕ)
    (posts : List PostReply) (takes : List TakeReply) (j : Bool → List A) (m : List B) (k : Bool → List A) (n : List B) : Type 0 where
  pub taking : TakingRest qs s lines (agent - posters) agent takes j m k n
  pub found_empty : length takes < jobs_in lines → (b : Bool) → LastIsEmpty agent ((qs b).history (k b))
  pub no_posts : posts ≡ []

-- what a worker has become by its work
pub record DidWork {Q S P R A B : Type 0} (q : QueueOf Q P A) (s : SetOf S R B) (queue rush : Q) (set : S) (lines : List Line) (posters : ℕ)
    (w v : BoardWorker P R) : Type 0 where
  pub agent_is : v.agent ≡ w.agent
  pub no_caller : 1 ≤ v.agent
  pub desk : IsDesk q s queue rush set v.agent v.desk
  pub posted : v.agent ≤ posters
      → DidPost (queue_views q queue rush) (set_view s set) lines posters v.agent v.replies.posts.items v.replies.takes.items (seen_in q w.desk) (s.journal w.desk.set)
      (seen_in q v.desk) (s.journal v.desk.set)
  pub took : posters < v.agent
      → DidTake (queue_views q queue rush) (set_view s set) lines posters v.agent v.replies.posts.items v.replies.takes.items (seen_in q w.desk) (s.journal w.desk.set)
      (seen_in q v.desk) (s.journal v.desk.set)
