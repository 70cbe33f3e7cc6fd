use Rattle.std.proofs.Common.{◌≡◌, ◌<◌, ℕ, slice_index_or}
use Rattle.queue_example.proofs.are_in_order.Given as goal

-- so far they are
abbrev pub invariant-loop-place : goal.invariant-loop-place
invariant-loop-place g l = (i : ℕ) (p : _) → i < l.place → g.Q.SharedQueue.agent_of l.queue (slice_index_or l.passes i p) ≡ i
