use Rattle.std.proofs.Common.{◌≡◌, ◌+◌, ◌<◌, ℕ, [], All, length, slice_index_or}
use Rattle.orc_workers.specs.Desks.{AreFresh}
use Rattle.orc_workers.proofs.desks.fresh_desks.Given as goal

abbrev pub invariant-loop-queue_pass : goal.invariant-loop-queue_pass
invariant-loop-queue_pass g l = record {
  queue_passes : All (λ p. g.Q.SharedQueue.usable l.queue p) l.queue_passes.items;
  queue_fresh : All (λ p. g.Q.SharedQueue.history l.queue (g.Q.SharedQueue.journal p) ≡ []) l.queue_passes.items;
  queue_agents : (i : ℕ) (p : g.row.Q-Pass.Denot) → i < length l.queue_passes.items → g.Q.SharedQueue.agent_of l.queue (slice_index_or l.queue_passes.items i p) ≡ i;
  rush_passes : All (λ p. g.Q.SharedQueue.usable l.rush p) l.rush_passes.items;
  rush_fresh : All (λ p. g.Q.SharedQueue.history l.rush (g.Q.SharedQueue.journal p) ≡ []) l.rush_passes.items;
  rush_agents : (i : ℕ) (p : g.row.Q-Pass.Denot) → i < length l.rush_passes.items → g.Q.SharedQueue.agent_of l.rush (slice_index_or l.rush_passes.items i p) ≡ i;
  set_passes : All (λ p. g.S.SharedSet.usable l.set p) l.set_passes.items;
  set_fresh : All (λ p. g.S.SharedSet.history l.set (g.S.SharedSet.journal p) ≡ []) l.set_passes.items;
  set_agents : (i : ℕ) (p : g.row.S-Pass.Denot) → i < length l.set_passes.items → g.S.SharedSet.agent_of l.set (slice_index_or l.set_passes.items i p) ≡ i;
  rush_same : length l.rush_passes.items ≡ length l.queue_passes.items;
  same : length l.set_passes.items ≡ length l.queue_passes.items;
  desks : AreFresh g.Q.SharedQueue g.S.SharedSet l.queue l.rush l.set (length l.queue_passes.items) l.desks.items;
  count : length l.desks.items + length l.queue_passes.items ≡ length l.initial.queue_passes.items;
}

abbrev pub decreases-loop-queue_pass : goal.decreases-loop-queue_pass
decreases-loop-queue_pass g l = length l.queue_passes.items
