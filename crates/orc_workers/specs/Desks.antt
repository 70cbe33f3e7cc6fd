-- The desks of a run, at its beginning and at its end.
use Rattle.std.specs.Prelude.{◌≡◌, ℕ, Bool, List, [], ◌∷◌}
use Rattle.std.specs.List.{AllByRecursion}
use Rattle.orc_history.specs.declared.queue.QueueEntry.{QueueEntry}
use Rattle.orc_history.specs.declared.set.SetEntry.{SetEntry}
use Rattle.orc_history.specs.declared.queue.SharedQueue.{Ghosts as QueueOf}
use Rattle.orc_history.specs.declared.set.SharedSet.{Ghosts as SetOf}
use Rattle.orc_board.specs.declared.desk.Desk.{Desk}
use Rattle.orc_board.specs.declared.replies.Replies.{Replies}
use Rattle.orc_board.specs.Desk.{IsDesk, seen_in}
use Rattle.orc_board.specs.Stretches.{queue_views, set_view, pick}
use Rattle.orc_board.specs.Follows.{Follows}
use Rattle.orc_jobs.specs.declared.line.Line.{Line}
use Rattle.orc_team.specs.Seats.{EachNumbered}

-- an idle desk of this agent, whose passes have seen no entry
pub record IsFreshDesk {Q S P R A B : Type 0} (q : QueueOf Q P A) (s : SetOf S R B) (queue rush : Q) (set : S) (agent : ℕ) (desk : Desk P R) : Type 0 where
  pub is_desk : IsDesk q s queue rush set agent desk
  pub queues_new : (b : Bool) → q.history (pick queue rush b) (seen_in q desk b) ≡ []
  pub set_new : s.history set (s.journal desk.set) ≡ []

-- one fresh desk per agent, in order from this one
abbrev pub AreFresh : {Q S P R A B : Type 0} → QueueOf Q P A → SetOf S R B → Q → Q → S → ℕ → List (Desk P R) → Type 0
AreFresh q s queue rush set agent desks = EachNumbered (IsFreshDesk q s queue rush set) agent desks

-- one idle desk per agent, in order from this one
abbrev pub AreIdle : {Q S P R A B : Type 0} → QueueOf Q P A → SetOf S R B → Q → Q → S → ℕ → List (Desk P R) → Type 0
AreIdle q s queue rush set agent desks = EachNumbered (IsDesk q s queue rush set) agent desks

-- the journal of the queue that the first desk's pass has seen
abbrev pub queue_seen : {Q P R A : Type 0} → QueueOf Q P A → List (Desk P R) → Bool → List A
queue_seen q [] b = []
queue_seen q (desk ∷ desks) b = seen_in q desk b

-- the journal of the set that the first desk's pass has seen
abbrev pub set_seen : {S P R B : Type 0} → SetOf S R B → List (Desk P R) → List B
set_seen s [] = []
set_seen s (desk ∷ desks) = s.journal desk.set

-- the history of the queue, and of the set, that the first desk's passes have seen
abbrev pub queue_history : {Q P R A : Type 0} → QueueOf Q P A → Q → Q → List (Desk P R) → Bool → List QueueEntry
queue_history q queue rush desks b = q.history (pick queue rush b) (queue_seen q desks b)

abbrev pub set_history : {S P R B : Type 0} → SetOf S R B → S → List (Desk P R) → List SetEntry
set_history s set desks = s.history set (set_seen s desks)

-- the passes of each desk have seen these three journals
abbrev pub HaveSeen : {Q S P R A B : Type 0} → QueueOf Q P A → SetOf S R B → (Bool → List A) → List B → List (Desk P R) → Type 0
HaveSeen q s k n desks = AllByRecursion (λ desk. ((b : Bool) → seen_in q desk b ≡ k b) × (s.journal desk.set ≡ n)) desks

-- the passes of all desks have seen the same three journals
abbrev pub HaveSeenTheSame : {Q S P R A B : Type 0} → QueueOf Q P A → SetOf S R B → List (Desk P R) → Type 0
HaveSeenTheSame q s desks = HaveSeen q s (queue_seen q desks) (set_seen s desks) desks

-- the replies follow the three journals that the first desk's passes have seen
abbrev pub RepliesFollow : {Q S P R A B : Type 0} → QueueOf Q P A → SetOf S R B → Q → Q → S → List Line → ℕ → ℕ → List (Desk P R) → Replies → Type 0
RepliesFollow q s queue rush set lines posters takers desks replies =
    Follows (queue_views q queue rush) (set_view s set) lines posters takers replies.posts.items replies.takes.items (queue_seen q desks) (set_seen s desks)
