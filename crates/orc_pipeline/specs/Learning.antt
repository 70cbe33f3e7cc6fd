-- What the queues are to the workers of a pipeline, and what is known of what they have seen.
use Rattle.std.specs.Prelude.{◌≡◌, ℕ, List, ◌++◌, ◌<◌, ◌≤◌, ◌^◌}
use Rattle.std.specs.List.{AllByRecursion}
use mathlib.Core.List.{IsPrefix}
use Rattle.orc_history.specs.QueueHistory.{agent_of_entry, puts_in, IsLegalQueue}
use Rattle.orc_history.specs.declared.queue.QueueEntry.{QueueEntry}
use Rattle.orc_history.specs.declared.queue.QueueRefused.{QueueRefused}
use Rattle.orc_history.specs.declared.queue.QueueRefused.TheVariants.{Positions}
use Rattle.orc_history.specs.declared.queue.SharedQueue.{Ghosts as QueueOf}
use Rattle.orc_board.specs.Stretches.{View}
use Rattle.orc_team.specs.Site.{Site}
use Rattle.orc_stages.specs.declared.replies.StageDesk.{StageDesk}
use Rattle.orc_stages.specs.Desks.{ArePasses, view_at, seen_at}

-- the containers are the queues, by their places, and a worker's desk has a pass of each
abbrev pub stage_site : {Q P A : Type 0} → QueueOf Q P A → List Q → Site (StageDesk P)
stage_site {P = P} {A = A} q queues = record {
  Container = ℕ;
  Step = λ i. A;
  Entry = λ i. QueueEntry;
  agent_of = λ i. agent_of_entry;
  history = λ i. (view_at q queues i).history;
  journal = λ i desk. seen_at q desk.passes.items i;
  usable = λ agent desk. ArePasses q agent queues desk.passes.items;
}

-- what the laws of a queue for so many agents say, whose first position is 0, and say of the journal of an idle pass
pub record LawsTell {A : Type 0} (x : View A QueueEntry QueueRefused) (agents : ℕ) (k : List A) : Type 0 where
  pub grows : (seen more : List A) → IsPrefix (x.history seen) (x.history (seen ++ more))
  pub crowd : (agent : ℕ) → x.crowd agent → agent < agents
  pub below : AllByRecursion (λ e. agent_of_entry e < agents) (x.history k)
  pub legal : IsLegalQueue 0 (x.history k)
  pub many_puts : (agent : ℕ) (seen : List A) (from to : ℕ) → x.licence agent Positions seen from to → 2 ^ 62 ≤ puts_in (x.history seen)

-- each of these queues is for so many agents, and its first position is 0
abbrev pub AreFor : {Q P A : Type 0} → QueueOf Q P A → (Q → ℕ) → ℕ → List Q → Type 0
AreFor q agents_of agents queues = AllByRecursion (λ queue. (agents_of queue ≡ agents) × (q.first queue ≡ 0)) queues

-- of each queue: what its laws say of the journal that the pass has seen
abbrev pub AreKnown : {Q P A : Type 0} → QueueOf Q P A → List Q → ℕ → List P → Type 0
AreKnown q queues agents passes = (i : ℕ) → LawsTell (view_at q queues i) agents (seen_at q passes i)
