-- How many events of its own a call makes.
use Rattle.std.proofs.Common.{Bool, List, None, Option, Some, [], ap, arith, false, inl, inr, length, length-append, refl, true, ℕ, ◌*◌, ◌+◌, ◌∙◌, ◌∷◌, ◌<◌, ◌≡◌, ◌≢◌, ◌≤◌, ◌⊎◌}
use Rattle.std.proofs.Math.Nat.{mul-le-mul_right}
use Rattle.std.specs.Prelude.{Err, IfErr, IfOk, Ok, Result}
use Rattle.orc_heap.proofs.ByAnswer.{Swings-missed, Swings-moved, Tests-found, Tests-missed}
use Rattle.orc_heap.proofs.InJournal.{own_after}
use Rattle.orc_heap.specs.Allowed.{events_by}
use Rattle.orc_heap.specs.Calls.{Looks, Swings, Tests}
use Rattle.orc_heap.specs.OwnEvents.{Only, Puts}
use Rattle.orc_heap.specs.Seats.{Seat}
use Rattle.orc_heap.specs.declared.events.Event.{Event}
use Rattle.orc_heap.specs.declared.events.Place.{Place}
use Rattle.orc_heap.specs.declared.holds.At.{At}
use Rattle.orc_heap.specs.declared.holds.Looked.{Looked}
use Rattle.orc_heap.specs.declared.holds.Looked.TheVariants.{Moved, Stable}
use Rattle.orc_heap.specs.declared.holds.Want.{Want}
use Rattle.orc_cell.specs.Publishes.{events_of_turns, nodes_for}

module _ {N : Type 0} where
  -- as many as it put
  pub made : {s t : Seat N} {own : List (Event N)} → Puts s own t
      → length (events_by t.agent t.seen) ≡ length (events_by s.agent s.seen) + length own
  made {s = s} {t = t} {own = own} p = ap (λ z. length z) (own_after s t own p) ∙ length-append (events_by s.agent s.seen) own

  -- it put so many at most
  abbrev PutsAtMost : ℕ → Seat N → Seat N → Type 0
  PutsAtMost most s t = length (events_by t.agent t.seen) ≤ length (events_by s.agent s.seen) + most

  -- a look makes two at most
  pub looked_few : {s t : Seat N} {place : Place} {slot : ℕ} {looked : Looked} → Looks place slot s looked t → PutsAtMost 2 s t
  looked_few {looked = Stable seen None} x = omega (arith, made x.tells.2)
  looked_few {looked = Stable seen (Some h)} x = omega (arith, made x.tells.7)
  looked_few {looked = Moved} x = omega (arith, made x.tells.4)

  -- a test makes one
  pub tested_few : {s t : Seat N} {at : At} {wanted : Want} {noted : Option N} {done : Bool} → Tests at wanted noted s done t → PutsAtMost 1 s t
  tested_few {done = true} x = omega (arith, made (Tests-found x refl))
  tested_few {done = false} x = omega (arith, made (Tests-missed x refl).puts)

  -- and so does a swing
  pub swung_few : {s t : Seat N} {at : At} {from to : Want} {noted : Option N} {done : Bool} → Swings at from to noted s done t → PutsAtMost 1 s t
  swung_few {done = true} x = omega (arith, made (Swings-moved x refl))
  swung_few {done = false} x = omega (arith, made (Swings-missed x refl).puts)

  -- an aim makes one at most
  pub aimed_few : (s t : Seat N) (e : Event N) (A E : Type 0) (r : Result A E) → IfOk r (λ _. Only (e ∷ []) s t) → IfErr r (λ _. Only [] s t)
      → PutsAtMost 1 s t
  aimed_few s t e A E (Ok x) ok err = omega (arith, made ok.puts)
  aimed_few s t e A E (Err x) ok err = omega (arith, made err.puts)

-- one turn more
pub turn_few : (k turns each s a t : ℕ) → k < turns → a ≤ s + k * each → t ≤ a + each → t ≤ s + turns * each
turn_few k turns each s a t below some one =
    let more : (k + 1) * each ≤ turns * each = mul-le-mul_right each (omega (arith, below)) in
    omega (arith, some, one, more)

-- one node at most is given for a half
pub nodes_few : (given : Option ℕ) (empty : Bool) → nodes_for given empty ≤ 1
nodes_few given true = omega arith
nodes_few None false = omega arith
nodes_few (Some value) false = omega arith

-- a publish of one part at least
pub publish_few : (left right : Option ℕ) (turns : ℕ) → (left ≢ None) ⊎ (right ≢ None) → 1 ≤ turns → events_of_turns turns left right ≤ 6 * turns + 1
publish_few None None turns given some = elim given [ inl left ↦ absurd (left refl) | inr right ↦ absurd (right refl) ]
publish_few None (Some right) turns given some = omega arith
publish_few (Some left) None turns given some = omega arith
publish_few (Some left) (Some right) turns given some = omega (arith, some)
