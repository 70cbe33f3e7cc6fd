-- What the board is to its workers, and what is known of what they have seen.
use Rattle.std.specs.Prelude.{ℕ, Bool, List, None, Option, Some, ◌++◌, ◌<◌, ◌≤◌, ◌+◌, ◌^◌}
use Rattle.std.specs.List.{AllByRecursion}
use Rattle.orc_history.specs.QueueHistory.{agent_of_entry, IsLegalQueue, puts_in}
use Rattle.orc_history.specs.SetHistory.{agent_of_set_entry, IsLegalSet}
use Rattle.orc_history.specs.declared.queue.QueueEntry.{QueueEntry}
use Rattle.orc_history.specs.declared.queue.QueueRefused.TheVariants.{Positions}
use Rattle.orc_history.specs.declared.set.SetEntry.{SetEntry}
use Rattle.orc_board.specs.declared.desk.Desk.{Desk}
use mathlib.Core.List.{IsPrefix}
use Rattle.orc_history.specs.declared.queue.SharedQueue.{Ghosts as QueueOf}
use Rattle.orc_history.specs.declared.set.SharedSet.{Ghosts as SetOf}
use Rattle.orc_board.specs.Desk.{IsDesk, seen_in}
use Rattle.orc_board.specs.Stretches.{pick, turns}
use Rattle.orc_team.specs.Site.{Site}

-- the containers are two queues, at false and true, and a set, which is None; of each, a step of its journal
abbrev pub step_of : Type 0 → Type 0 → Option Bool → Type 0
step_of A B (Some b) = A
step_of A B None = B

-- an entry of its history
abbrev pub entry_of : Option Bool → Type 0
entry_of (Some b) = QueueEntry
entry_of None = SetEntry

-- the agent of an entry
abbrev pub agent_in : (c : Option Bool) → entry_of c → ℕ
agent_in (Some b) e = agent_of_entry e
agent_in None e = agent_of_set_entry e

-- the entries that stand in a journal
abbrev pub history_in : {Q S P R A B : Type 0} → QueueOf Q P A → SetOf S R B → Q → Q → S → (c : Option Bool) → List (step_of A B c) → List (entry_of c)
history_in q s queue rush set (Some b) j = q.history (pick queue rush b) j
history_in q s queue rush set None j = s.history set j

-- the steps that a desk's pass has seen
abbrev pub journal_in : {Q S P R A B : Type 0} → QueueOf Q P A → SetOf S R B → (c : Option Bool) → Desk P R → List (step_of A B c)
journal_in q s (Some b) desk = seen_in q desk b
journal_in q s None desk = s.journal desk.set

-- the board as what its workers work at
abbrev pub board_site : {Q S P R A B : Type 0} → QueueOf Q P A → SetOf S R B → Q → Q → S → Site (Desk P R)
board_site {A = A} {B = B} q s queue rush set = record {
  Container = Option Bool;
  Step = step_of A B;
  Entry = entry_of;
  agent_of = agent_in;
  history = history_in q s queue rush set;
  journal = journal_in q s;
  usable = IsDesk q s queue rush set;
}

-- what the laws of the containers say, and say of the journals of an idle desk
pub record LawsTell {Q S P R A B : Type 0} (q : QueueOf Q P A) (s : SetOf S R B) (queue rush : Q) (set : S) (queue_agents rush_agents set_agents : ℕ)
    (desk : Desk P R) : Type 0 where
  pub queues_grow : (b : Bool) (seen more : List A) → IsPrefix (q.history (pick queue rush b) seen) (q.history (pick queue rush b) (seen ++ more))
  pub set_grows : (seen more : List B) → IsPrefix (s.history set seen) (s.history set (seen ++ more))
  pub queues_crowd : (b : Bool) (agent : ℕ) → q.crowd (pick queue rush b) agent → agent < pick queue_agents rush_agents b
  pub set_crowd : (agent : ℕ) → s.crowd set agent → agent < set_agents
  pub queues_below : (b : Bool) → AllByRecursion (λ e. agent_of_entry e < pick queue_agents rush_agents b) (q.history (pick queue rush b) (seen_in q desk b))
  pub set_below : AllByRecursion (λ e. agent_of_set_entry e < set_agents) (s.history set (s.journal desk.set))
  pub queues_legal : (b : Bool) → IsLegalQueue (q.first (pick queue rush b)) (q.history (pick queue rush b) (seen_in q desk b))
  pub set_legal : IsLegalSet (s.history set (s.journal desk.set))
  pub many_puts : (b : Bool) (agent : ℕ) (seen : List A) (from to : ℕ) → q.licence (pick queue rush b) agent turns Positions seen from to
      → 2 ^ 62 ≤ q.first (pick queue rush b) + puts_in (q.history (pick queue rush b) seen)
