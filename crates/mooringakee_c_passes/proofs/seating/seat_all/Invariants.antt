-- Each pass so far has its place, and those that are left come next.
use Rattle.std.proofs.Common.{length, ◌+◌, ◌≡◌}
use Rattle.orc_shared_words.specs.Lists.{EachAt}
use Rattle.mooringakee_c_passes.specs.Places.{GetsPlace}
use Rattle.mooringakee_c_passes.proofs.Lists.{IsRest}
use Rattle.mooringakee_c_passes.proofs.seating.seat_all.Given as goal

abbrev pub invariant-loop-pass : goal.invariant-loop-pass
invariant-loop-pass g l =
    EachAt (λ i b. GetsPlace (λ place seat. seat ≡ g.C.HasSeats.seat_of place) l.fn.container l.fn.places l.fn.passes.items l.fn.turns i b.value)
    l.seats.items
    × (length l.seats.items + length l.pass-iterator.rest.items ≡ length l.fn.passes.items)
    × IsRest l.fn.passes.items (length l.seats.items) l.pass-iterator.rest.items
