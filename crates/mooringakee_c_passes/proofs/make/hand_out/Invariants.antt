-- The seats that are left are the first ones, and each place after those has its seat.
use Rattle.std.proofs.Common.{Some, length, slice_index_or, vec_len, ℕ, ◌<◌, ◌≡◌, ◌≤◌}
use Rattle.mooringakee_c_passes.proofs.make.hand_out.Given as goal

abbrev pub invariant-loop-seat : goal.invariant-loop-seat
invariant-loop-seat l =
    (length l.left.items ≤ length l.places)
    × ((i : ℕ) (b : _) → i < length l.left.items → slice_index_or l.left.items i b ≡ slice_index_or l.fn.seats.items i b)
    × ((i : ℕ) (p : _) (b : _) → length l.left.items ≤ i → i < length l.places
    → (slice_index_or l.places i p).pointer.seat ≡ Some (slice_index_or l.fn.seats.items i b).value)

abbrev pub decreases-loop-seat : goal.decreases-loop-seat
decreases-loop-seat l = vec_len l.left
