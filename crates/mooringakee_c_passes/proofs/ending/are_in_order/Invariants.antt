-- The passes so far are in order.
use Rattle.std.proofs.Common.{slice_index_or, ℕ, ◌<◌, ◌≡◌}
use Rattle.orc_domain.specs.Passes.{seat_of}
use Rattle.mooringakee_c_passes.proofs.ending.are_in_order.Given as goal

abbrev pub invariant-loop-at : goal.invariant-loop-at
invariant-loop-at g l = (i : ℕ) (p : _) → i < l.at → (seat_of l.fn.domain (slice_index_or l.fn.passes.items i p)).agent ≡ i
