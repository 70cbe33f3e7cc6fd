use Rattle.std.proofs.Common.{◌≡◌, ◌<◌, ℕ, slice_index_or}
use Rattle.orc_heap.specs.Domains.{agent}
use Rattle.uses.proofs.crew.are_in_order.Given as goal

-- so far they are
abbrev pub invariant-loop-place : goal.invariant-loop-place
invariant-loop-place g l = (i : ℕ) (p : _) → i < l.place → agent g.L.Links l.links (slice_index_or l.passes i p) ≡ i
