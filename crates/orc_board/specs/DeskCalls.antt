-- What the contracts of a desk's calls say of a desk, or of one of its passes, before a call, `old`, and after it, `new`.
use Rattle.std.specs.Prelude.{List, ℕ, ◌≡◌, Bool, Option, None}
use Rattle.orc_board.specs.Desk.{seen_in, both_seen}
use Rattle.orc_board.specs.Follows.{Posting, TakingRest}
use Rattle.orc_board.specs.Stretches.{Did, Replied, Row, Share, Stretch, of_queue, of_set, queue_view, queue_views, refusal, set_view}
use Rattle.orc_board.specs.Table.{Closes as ClosesIn, EndsWith, TakeEnds, taken_of, Opened, Dropped, Next}
use Rattle.orc_board.specs.declared.desk.Desk.{Desk}
use Rattle.orc_board.specs.declared.replies.PostReply.{PostReply}
use Rattle.orc_board.specs.declared.replies.TakeReply.{TakeReply}
use Rattle.orc_board.specs.declared.replies.TakeWord.{TakeWord}
use Rattle.orc_history.specs.declared.queue.QueueEntry.{QueueEntry}
use Rattle.orc_history.specs.declared.queue.QueueRefused.{QueueRefused}
use Rattle.orc_history.specs.declared.queue.SharedQueue.{Ghosts as QueueOf}
use Rattle.orc_history.specs.declared.set.ListRefused.{ListRefused}
use Rattle.orc_history.specs.declared.set.SetEntry.{SetEntry}
use Rattle.orc_history.specs.declared.set.SharedSet.{Ghosts as SetOf}
use Rattle.orc_jobs.specs.declared.line.Line.{Line}

module _ {Q P A : Type 0} (members : QueueOf Q P A) (queue : Q) where
  -- the call made these entries of its agent in the queue's history, and no others that count
  abbrev pub QueueCall : P → P → (ℕ → List QueueEntry) → Type 0
  QueueCall old new entries =
      Stretch of_queue (queue_view members queue) (members.agent_of queue old) (entries (members.agent_of queue old)) (members.journal old)
      (members.journal new)

  -- the call was refused for this cause, and made none
  abbrev pub QueueRefuses : P → P → QueueRefused → Type 0
  QueueRefuses old new why = Did of_queue (queue_view members queue) (members.agent_of queue old) (refusal why) (members.journal old) (members.journal new)

  -- this is the agent's last entry in the queue's history, made by the call
  abbrev pub QueueEndsWith : P → P → (ℕ → QueueEntry) → Type 0
  QueueEndsWith old new last =
      EndsWith (queue_view members queue) (members.agent_of queue old) (last (members.agent_of queue old)) (members.journal old) (members.journal new)

  -- the pass has the same agent
  abbrev pub KeepsQueueAgent : P → P → Type 0
  KeepsQueueAgent old new = members.agent_of queue new ≡ members.agent_of queue old

module _ {S R B : Type 0} (members : SetOf S R B) (set : S) where
  -- the call made these entries of its agent in the set's history, and no others
  abbrev pub SetCall : R → R → (ℕ → List SetEntry) → Type 0
  SetCall old new entries =
      Stretch of_set (set_view members set) (members.agent_of set old) (entries (members.agent_of set old)) (members.journal old) (members.journal new)

  -- the call was refused for this cause, and made none
  abbrev pub SetRefuses : R → R → ListRefused → Type 0
  SetRefuses old new why = Did of_set (set_view members set) (members.agent_of set old) (refusal why) (members.journal old) (members.journal new)

  -- the pass has the same agent
  abbrev pub KeepsSetAgent : R → R → Type 0
  KeepsSetAgent old new = members.agent_of set new ≡ members.agent_of set old

  -- the call closed this id of the line with this number, or found it closed
  abbrev pub Closes : List Line → R → R → ℕ → ℕ → TakeWord → Type 0
  Closes lines old new id job what = ClosesIn (set_view members set) lines (members.agent_of set old) id job what (members.journal old) (members.journal new)

-- one of these parts is what the call did in one queue and in the set
abbrev pub Opens : {Q S P R A B : Type 0} → QueueOf Q P A → SetOf S R B → Q → S → P → P → R → R → ℕ
    → (Share QueueEntry QueueRefused → Share SetEntry ListRefused → Type 0) → Type 0
Opens q s queue set p p2 ids ids2 worker parts =
    Opened (queue_view q queue) (set_view s set) parts worker (q.journal p) (s.journal ids) (q.journal p2) (s.journal ids2)

-- one of these parts is what the call did in the set
abbrev pub Drops : {S R B : Type 0} → SetOf S R B → S → R → R → ℕ → (Share SetEntry ListRefused → Type 0) → Type 0
Drops s set ids ids2 worker parts = Dropped (set_view s set) parts worker (s.journal ids) (s.journal ids2)

-- the call took from the rush queue, or else from the queue, or found both empty
abbrev pub TakesNext : {Q P A : Type 0} → QueueOf Q P A → Q → Q → P → P → P → P → Option (Bool × ℕ × ℕ) → Type 0
TakesNext q queue rush p hurried p2 hurried2 answer =
    Next (queue_views q queue rush) (q.agent_of queue p) answer (both_seen q p hurried) (both_seen q p2 hurried2)

module _ {Q S P R A B : Type 0} (q : QueueOf Q P A) (s : SetOf S R B) (queue rush : Q) (set : S) where
  -- one of these rows is what the worker did between the two
  abbrev pub Replies : Desk P R → Desk P R → ℕ → (Row → Type 0) → Type 0
  Replies old new worker rows =
      Replied (queue_views q queue rush) (set_view s set) rows worker (seen_in q old) (s.journal old.set) (seen_in q new) (s.journal new.set)

  -- these replies are all that the poster did
  abbrev pub Posts : Desk P R → Desk P R → List Line → ℕ → List PostReply → Type 0
  Posts old new lines poster replies =
      Posting (queue_views q queue rush) (set_view s set) lines poster replies (seen_in q old) (s.journal old.set) (seen_in q new) (s.journal new.set)

  -- these replies are all that the desk's agent did as this taker, and after the last of them it took no more
  abbrev pub TakesRest : Desk P R → Desk P R → List Line → ℕ → List TakeReply → Type 0
  TakesRest old new lines taker replies =
      TakingRest (queue_views q queue rush) (set_view s set) lines taker (q.agent_of queue old.queue) replies
      (seen_in q old) (s.journal old.set) (seen_in q new) (s.journal new.set)

  -- what a take with this answer leaves as the agent's last entries
  abbrev pub LeavesLast : Desk P R → Desk P R → Option TakeReply → Type 0
  LeavesLast old new answer = TakeEnds (queue_views q queue rush) (q.agent_of queue old.queue) (taken_of answer) (seen_in q old) (seen_in q new)

  -- the agent found both queues empty, and made no entry after that
  abbrev pub FindsBothEmpty : Desk P R → Desk P R → Type 0
  FindsBothEmpty old new = TakeEnds (queue_views q queue rush) (q.agent_of queue old.queue) None (seen_in q old) (seen_in q new)
