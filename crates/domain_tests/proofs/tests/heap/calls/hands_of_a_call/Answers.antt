use Rattle.std.proofs.Common.{None, Some, [], refl, suc, zero, ℕ, ◌∷◌, ◌≡◌, slice_get}
use Rattle.orc_heap.specs.Hands.{IsApart, hand}
use Rattle.orc_heap.specs.Slots.{Slots}
use Rattle.domain_tests.proofs.tests.heap.calls.hands_of_a_call.Goals as goal

abbrev before : Slots
before = None ∷ None ∷ []

abbrev after : Slots
after = None ∷ Some (record { row = 3; id = 5 }) ∷ []

others : (slot : ℕ) → IsApart slot (hand (Some (record { row = 3; slot = 1 })) 5 ∷ []) → slice_get after slot ≡ slice_get before slot
others zero apart = refl
others (suc zero) apart = absurd (apart.0 refl)
others (suc (suc slot)) apart = refl

pub returns-clause-in_hand : goal.returns-clause-in_hand
returns-clause-in_hand c = record { same_length = refl; others = others; held = ((refl, refl, tt), tt) }

pub returns-clause-left : goal.returns-clause-left
returns-clause-left c = λ h. let one : slice_get after 1 ≡ slice_get before 1 = h.others 1 tt in cc
