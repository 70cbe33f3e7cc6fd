-- As many places as were counted, each with the tag.
use Rattle.std.proofs.Common.{All, length, ◌≡◌}
use Rattle.given_back.proofs.places.GivenBack.new.Given as goal

abbrev pub invariant-loop : goal.invariant-loop
invariant-loop g l = (length l.places.items ≡ l.counter) × All (λ t. t ≡ l.fn.tag) l.places.items
