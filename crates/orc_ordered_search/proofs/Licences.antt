-- From the clauses of a call to what the trait of shared sets asks.
use Rattle.std.proofs.Common.{Bool, Err, List, Ok, Result, arith, length, refl, ℕ, ◌≡◌, ◌≢◌}
use Rattle.std.specs.Prelude.{IfErr}
use mathlib.Core.List.{IsPrefix}
use Rattle.orc_fault.specs.declared.Again.{Again as AgainFault}
use Rattle.orc_fault.specs.declared.Spent.{Spent as SpentRow}
use Rattle.orc_heap.proofs.Steps.{part_bounds}
use Rattle.orc_heap.specs.declared.events.Event.{Event}
use Rattle.orc_history.specs.Journals.{Within}
use Rattle.orc_history.specs.Parts.{InPart, WithinPart, part_begin}
use Rattle.orc_history.specs.declared.set.ListRefused.{ListRefused}
use Rattle.orc_history.specs.declared.set.ListRefused.TheVariants.{Again, NoNode, Spent}
use Rattle.orc_ordered_search.specs.Causes.{Cause, UsesTurns}

-- the licence of a refusal, from the clauses of a call
module _ {N S : Type 0} (agent_of : S → ℕ) (events : List S → List (Event N)) (agent turns : ℕ) (j m : List S)
    (grows : IsPrefix j m) (Lacks : ℕ → ℕ → Type 0) (Worn : SpentRow → ℕ → ℕ → Type 0) where
  abbrev IsLicensed : ListRefused → Type 0
  IsLicensed why = Within (length j) (length m) (λ from to. Cause agent_of events (Lacks from to) (λ spent. Worn spent from to) agent turns why m from to)

  of_again : InPart agent_of agent j m (λ from to. UsesTurns agent_of events agent turns m from to) → IsLicensed Again
  of_again used = let bounds = part_bounds agent_of agent j m grows in (part_begin agent_of agent j m, length m, bounds.0, bounds.1, omega arith, used)

  pub again_licence : (r : Result Bool AgainFault) → IfErr r (λ e. InPart agent_of agent j m (λ from to. UsesTurns agent_of events agent turns m from to))
      → IfErr r (λ e. IsLicensed Again)
  again_licence (Ok answer) again = tt
  again_licence (Err e) again = of_again again

  pub insert_licence : (r : Result Bool ListRefused) → (turns ≡ 0 → r ≡ Err Again)
      → (r ≡ Err Again → InPart agent_of agent j m (λ from to. UsesTurns agent_of events agent turns m from to))
      → (r ≡ Err NoNode → WithinPart agent_of agent j m Lacks) → ((why : SpentRow) → r ≡ Err (Spent why) → WithinPart agent_of agent j m (Worn why))
      → IfErr r (λ e. IsLicensed e)
  insert_licence (Ok answer) none again node spent = tt
  insert_licence (Err Again) none again node spent = of_again (again refl)
  insert_licence (Err NoNode) none again node spent =
      let some : turns ≢ 0 = λ zero_turns. let bad : ◌≡◌ {A = Result Bool ListRefused} (Err NoNode) (Err Again) = none zero_turns in cc in
      let (from, to, low, order, high, fact) = (node refl).within in
      (from, to, omega (arith, low, (part_bounds agent_of agent j m grows).0), order, high, (some, fact))
  insert_licence (Err (Spent why)) none again node spent =
      let some : turns ≢ 0 = λ zero_turns. let bad : ◌≡◌ {A = Result Bool ListRefused} (Err (Spent why)) (Err Again) = none zero_turns in cc in
      let (from, to, low, order, high, fact) = (spent why refl).within in
      (from, to, omega (arith, low, (part_bounds agent_of agent j m grows).0), order, high, (some, fact))
