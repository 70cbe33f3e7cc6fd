-- What the laws of queues say of a queue at a place.
use Rattle.std.proofs.Common.{ℕ, zero, suc, ◌+◌, ◌<◌, ◌≤◌, ◌^◌, List, [], ◌∷◌, ◌++◌, refl, subst, arith}
use Rattle.std.specs.List.{AllByRecursion}
use mathlib.Core.List.{IsPrefix}
use Rattle.orc_history.specs.QueueHistory.{agent_of_entry, puts_in, IsLegalQueue}
use Rattle.orc_history.specs.declared.queue.QueueRefused.TheVariants.{Positions}
use Rattle.orc_history.specs.declared.queue.SharedQueue.{Ghosts as QueueOf}
use Rattle.orc_stages.specs.Desks.{ArePasses, view_at, seen_at}
use Rattle.orc_pipeline.specs.Learning.{AreFor, LawsTell}

-- the laws of queues for so many agents each
pub record QueueLaws {Q P A : Type 0} (q : QueueOf Q P A) (agents_of : Q → ℕ) : Type 0 where
  pub grows : (queue : Q) (seen more : List A) → IsPrefix (q.history queue seen) (q.history queue (seen ++ more))
  pub crowd : (queue : Q) (agent : ℕ) → q.crowd queue agent → agent < agents_of queue
  pub below : (queue : Q) (p : P) → q.usable queue p
      → (q.agent_of queue p < agents_of queue) × AllByRecursion (λ e. agent_of_entry e < agents_of queue) (q.history queue (q.journal p))
  pub legal : (queue : Q) (p : P) → q.usable queue p → IsLegalQueue (q.first queue) (q.history queue (q.journal p))
  pub many : (queue : Q) (agent turns : ℕ) (seen : List A) (from to : ℕ) → q.licence queue agent turns Positions seen from to
      → 2 ^ 62 ≤ q.first queue + puts_in (q.history queue seen)

no_queue : {Q P A : Type 0} (q : QueueOf Q P A) (agents : ℕ) (passes : List P) (i : ℕ) → (seen : List A) → LawsTell (view_at q [] i) agents seen
no_queue q agents passes i seen = record {
  grows = λ seen more. ([], refl);
  crowd = λ agent h. absurd h;
  below = tt;
  legal = tt;
  many_puts = λ agent seen from to h. absurd h;
}

pub known_at : {Q P A : Type 0} (q : QueueOf Q P A) (agents_of : Q → ℕ) → QueueLaws q agents_of → (me agents : ℕ) (queues : List Q) (passes : List P)
    → AreFor q agents_of agents queues → ArePasses q me queues passes → (i : ℕ) → LawsTell (view_at q queues i) agents (seen_at q passes i)
known_at q agents_of laws me agents [] passes for are i = no_queue q agents passes i (seen_at q passes i)
known_at q agents_of laws me agents (queue ∷ queues) [] for are i = absurd are
known_at q agents_of laws me agents (queue ∷ queues) (p ∷ ps) for are zero = record {
  grows = laws.grows queue;
  crowd = λ agent h. subst (λ (n : ℕ). agent < n) for.0.0 (laws.crowd queue agent h);
  below = subst (λ (n : ℕ). AllByRecursion (λ e. agent_of_entry e < n) (q.history queue (q.journal p))) for.0.0 (laws.below queue p are.0).1;
  legal = subst (λ (n : ℕ). IsLegalQueue n (q.history queue (q.journal p))) for.0.1 (laws.legal queue p are.0);
  many_puts = λ agent seen from to h.
      let many : 2 ^ 62 ≤ q.first queue + puts_in (q.history queue seen) = laws.many queue agent 64 seen from to h in
      let told : 2 ^ 62 ≤ 0 + puts_in (q.history queue seen) = subst (λ (n : ℕ). 2 ^ 62 ≤ n + puts_in (q.history queue seen)) for.0.1 many in
      omega (arith, told);
}
known_at q agents_of laws me agents (queue ∷ queues) (p ∷ ps) for are (suc i) = known_at q agents_of laws me agents queues ps for.1 are.2 i
