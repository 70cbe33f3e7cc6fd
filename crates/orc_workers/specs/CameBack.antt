-- What the caller and its workers have come to at the end of a run.
use Rattle.std.specs.Prelude.{◌≡◌, ℕ, suc, Bool, ◌+◌, ◌<◌, ◌≤◌, List, [], length, map, ◌⊎◌}
use Rattle.std.specs.List.{AllByRecursion}
use Rattle.orc_history.specs.declared.queue.QueueEntry.{QueueEntry}
use Rattle.orc_history.specs.declared.queue.QueueRefused.{QueueRefused}
use Rattle.orc_history.specs.declared.queue.SharedQueue.{Ghosts as QueueOf}
use Rattle.orc_history.specs.declared.set.SetEntry.{SetEntry}
use Rattle.orc_history.specs.declared.set.ListRefused.{ListRefused}
use Rattle.orc_history.specs.declared.set.SharedSet.{Ghosts as SetOf}
use Rattle.orc_history.specs.QueueHistory.{agent_of_entry}
use Rattle.orc_history.specs.SetHistory.{agent_of_set_entry}
use Rattle.orc_jobs.specs.declared.line.Line.{Line}
use Rattle.orc_board.specs.declared.replies.PostReply.{PostReply}
use Rattle.orc_board.specs.declared.replies.TakeReply.{TakeReply}
use Rattle.orc_board.specs.declared.desk.Desk.{Desk}
use Rattle.orc_team.specs.Seats.{AreNumbered}
use Rattle.orc_board.specs.Desk.{IsDesk, seen_in}
use Rattle.orc_workers.specs.Desks.{AreIdle, HaveSeen}
use Rattle.orc_board.specs.Stretches.{View, queue_views, set_view, beside, all_beside, pick}
use Rattle.orc_board.specs.Follows.{TakingRest, ZeroLast, LastIsEmpty, IsWorker, none}
use Rattle.orc_workers.specs.Learning.{LawsTell}
use Rattle.orc_workers.specs.Team.{BoardWorker, DidPost, DidTake}

-- a worker's passes have seen no entry
pub record IsNew {Q S P R A B : Type 0} (q : QueueOf Q P A) (s : SetOf S R B) (queue rush : Q) (set : S) (w : BoardWorker P R) : Type 0 where
  pub queues_new : (b : Bool) → q.history (pick queue rush b) (seen_in q w.desk b) ≡ []
  pub set_new : s.history set (s.journal w.desk.set) ≡ []

-- what a worker did, as these journals tell of it from their beginning
pub record IsTold {A B : Type 0} (qs : Bool → View A QueueEntry QueueRefused) (s : View B SetEntry ListRefused) (lines : List Line) (posters : ℕ)
    (k : Bool → List A) (n : List B) (agent : ℕ) (posts : List PostReply) (takes : List TakeReply) : Type 0 where
  pub posted : agent ≤ posters → DidPost qs s lines posters agent posts takes none [] k n
  pub took : posters < agent → DidTake qs s lines posters agent posts takes none [] k n

-- what the caller and the workers have come to
pub record AllCameBack {Q S P R A B : Type 0} (q : QueueOf Q P A) (s : SetOf S R B) (queue rush : Q) (set : S) (lines : List Line) (posters takers : ℕ)
    (desk : Desk P R) (takes : List TakeReply) (ws : List (BoardWorker P R)) : Type 0 where
  pub caller : IsDesk q s queue rush set 0 desk
  pub known : LawsTell q s queue rush set (suc (posters + takers)) (suc (posters + takers)) (suc (posters + takers)) desk
  pub none_first : (b : Bool) → q.history (pick queue rush b) [] ≡ []
  pub numbered : AreNumbered 1 ws
  pub many : length ws ≡ posters + takers
  pub idle : AreIdle q s queue rush set 1 (map (λ (w : BoardWorker P R). w.desk) ws)
  pub seen : HaveSeen q s (seen_in q desk) (s.journal desk.set) (map (λ (w : BoardWorker P R). w.desk) ws)
  pub told : AllByRecursion
      (λ w. IsTold (all_beside (queue_views q queue rush) (IsWorker posters takers)) (beside (set_view s set) (IsWorker posters takers)) lines posters
      (seen_in q desk) (s.journal desk.set) w.agent w.replies.posts.items w.replies.takes.items) ws
  pub taking : TakingRest (all_beside (queue_views q queue rush) (IsWorker posters takers)) (beside (set_view s set) (IsWorker posters takers)) lines 0 0 takes
      none [] (seen_in q desk) (s.journal desk.set)
  pub queues_zero_last : (b : Bool) → ZeroLast agent_of_entry (q.history (pick queue rush b) (seen_in q desk b))
  pub set_zero_last : ZeroLast agent_of_set_entry (s.history set (s.journal desk.set))
  pub last : ((b : Bool) → LastIsEmpty 0 (q.history (pick queue rush b) (seen_in q desk b))) ⊎ (length lines ≤ length takes)
