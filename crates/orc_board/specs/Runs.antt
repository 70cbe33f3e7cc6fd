-- What a run leaves.
use Rattle.std.specs.Prelude.{◌≡◌, ℕ, List, [], Bool}
use Rattle.orc_history.specs.declared.queue.QueueEntry.{QueueEntry}
use Rattle.orc_history.specs.declared.queue.QueueRefused.{QueueRefused}
use Rattle.orc_history.specs.declared.set.SetEntry.{SetEntry}
use Rattle.orc_history.specs.declared.set.ListRefused.{ListRefused}
use Rattle.orc_history.specs.QueueHistory.{IsLegalQueue, waiting_after}
use Rattle.orc_history.specs.SetHistory.{IsLegalSet}
use Rattle.orc_jobs.specs.declared.line.Line.{Line}
use Rattle.orc_board.specs.declared.replies.PostReply.{PostReply}
use Rattle.orc_board.specs.declared.replies.TakeReply.{TakeReply}
use Rattle.orc_board.specs.Stretches.{View}
use Rattle.orc_board.specs.Follows.{Follows}
use Rattle.orc_board.specs.Reportable.{AreReportable}

-- the replies follow the three journals, whose histories are legal, the queues' leave the empty list, and the replies can be reported
pub record Ran {A B : Type 0} (qs : Bool → View A QueueEntry QueueRefused) (s : View B SetEntry ListRefused) (lines : List Line) (posters takers : ℕ)
    (posts : List PostReply) (takes : List TakeReply) (k : Bool → List A) (n : List B) : Type 0 where
  pub follows : Follows qs s lines posters takers posts takes k n
  pub queues_legal : (rush : Bool) → IsLegalQueue 0 ((qs rush).history (k rush))
  pub set_legal : IsLegalSet (s.history n)
  pub empty : (rush : Bool) → waiting_after [] ((qs rush).history (k rush)) ≡ []
  pub reportable : AreReportable lines posts takes
