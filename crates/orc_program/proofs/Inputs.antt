-- What was read of an input that is told.
use Rattle.std.proofs.Common.{◌≡◌, ◌∙◌, ◌<◌, ◌≤◌, ◌++◌, List, [], ℕ, Option, None, Some, true, ap, append-nil, arith, length, length-append, sym}
use Rattle.orc_program.specs.Answers.{IsInput}
use Rattle.orc_jobs.specs.declared.lines.TheConstants.{MOST_BYTES}

module _ (told bytes : List ℕ) where
  pub whole : (after : Option (List ℕ)) → IsInput true (Some told) after bytes → length told ≤ MOST_BYTES → (bytes ≡ told) × (after ≡ Some [])
  whole None (taken, all) few = absurd taken
  whole (Some left) (taken, all) few =
      let sizes = ap length taken ∙ length-append bytes left in
      let none : left ≡ [] = all (omega (arith, sizes, few)) in
      (sym (taken ∙ ap (λ (l : List ℕ). bytes ++ l) none ∙ append-nil bytes), ap Some none)

  pub more : (after : Option (List ℕ)) → IsInput true (Some told) after bytes → MOST_BYTES < length told → MOST_BYTES < length bytes
  more None (taken, all) many = absurd taken
  more (Some left) (taken, all) many =
      let sizes = ap length taken ∙ length-append bytes left in
      let end : length bytes ≤ MOST_BYTES → length left ≡ 0 = λ h. ap length (all h) in
      grind (arith, sizes, end, many)
