-- The values so far fit their tags, and the places that are left have the tags of all.
use Rattle.std.proofs.Common.{All, length, ◌+◌, ◌≡◌}
use Rattle.given_back.specs.Places.{tags}
use Rattle.given_back.proofs.places.GivenBack.take_all.Given as goal

abbrev pub invariant-loop-place : goal.invariant-loop-place
invariant-loop-place g l =
    (length l.values.items + length l.place-iterator.rest.items ≡ length (tags l.fn.self))
    × ((tag : g.row.K-Tag.Denot) → All (λ t. t ≡ tag) (tags l.fn.self)
    → All (λ t. t ≡ tag) l.place-iterator.rest.items × All (λ v. g.K.Keeps.holds tag v) l.values.items)
