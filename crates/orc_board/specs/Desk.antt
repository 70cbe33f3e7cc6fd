-- Desks.
use Rattle.std.specs.Prelude.{◌≡◌, ℕ, Bool, List}
use Rattle.orc_history.specs.declared.queue.SharedQueue.{Ghosts as QueueOf}
use Rattle.orc_history.specs.declared.set.SharedSet.{Ghosts as SetOf}
use Rattle.orc_board.specs.Stretches.{pick}
use Rattle.orc_board.specs.declared.desk.Desk.{Desk}

-- the passes of the desk are idle passes of these two queues and of this set, and all three are of this agent
pub record IsDesk {Q S P R A B : Type 0} (q : QueueOf Q P A) (s : SetOf S R B) (queue rush : Q) (set : S) (agent : ℕ) (desk : Desk P R) : Type 0 where
  pub queue_pass : q.usable queue desk.queue
  pub rush_pass : q.usable rush desk.rush
  pub set_pass : s.usable set desk.set
  pub queue_agent : q.agent_of queue desk.queue ≡ agent
  pub rush_agent : q.agent_of rush desk.rush ≡ agent
  pub set_agent : s.agent_of set desk.set ≡ agent

-- the journals that two passes have seen: the queue's, at false, and the rush queue's, at true
abbrev pub both_seen : {Q P A : Type 0} → QueueOf Q P A → P → P → Bool → List A
both_seen q queue rush b = q.journal (pick queue rush b)

abbrev pub seen_in : {Q P R A : Type 0} → QueueOf Q P A → Desk P R → Bool → List A
seen_in q desk = both_seen q desk.queue desk.rush
