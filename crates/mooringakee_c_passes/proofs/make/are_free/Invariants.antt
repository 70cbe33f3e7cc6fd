-- There is none at the places before.
use Rattle.std.proofs.Common.{None, slice_index_or, ℕ, ◌<◌, ◌≡◌}
use Rattle.mooringakee_c_passes.proofs.make.are_free.Given as goal

abbrev pub invariant-loop-place : goal.invariant-loop-place
invariant-loop-place l = (i : ℕ) (p : _) → i < l.place-index → (slice_index_or l.places i p).pointer.seat ≡ None
