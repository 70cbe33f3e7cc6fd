-- New places make new passes.
use Rattle.std.proofs.Common.{Box, List, Some, [], arith, length, slice_index_or, ℕ, ◌<◌, ◌∙◌, ◌∷◌, ◌≡◌}
use Rattle.std.specs.Global.{Global}
use Rattle.orc_domain.specs.Passes.{domain_bounds}
use Rattle.orc_domain.specs.declared.domain.OrcDomain.{OrcDomain}
use Rattle.orc_shared_words.specs.Lists.{EachAt}
use Rattle.orc_words.specs.Bounds.{Bounds}
use Rattle.mooringakee_c_passes.specs.Making.{AreNewPasses}
use Rattle.mooringakee_c_passes.specs.declared.pass.Pass.{Pass}
use Rattle.mooringakee_c_passes.specs.declared.seat.Seat.{Seat}

-- some element of a list that has one
element : {A : Type 0} (xs : List A) (i : ℕ) → i < length xs → A
element [] i low = absurd (omega (arith, low))
element (x ∷ xs) i low = x

-- each pass stands for the place that was made for it
abbrev AreHeld : List (Box Seat Global) → List Pass → Type 0
AreHeld seats passes = EachAt (λ i p. (b : Box Seat Global) → p.pointer.seat ≡ Some (slice_index_or seats i b).value) passes

pub new_passes : {D N : Type 0} (IsNew : OrcDomain D N → ℕ → Seat → Type 0) (sizes asked : Bounds) (passes : List Pass) (seats : List (Box Seat Global))
    → sizes ≡ asked → length seats ≡ length passes → AreHeld seats passes
    → ((domain : OrcDomain D N) × (domain_bounds domain ≡ sizes) × EachAt (λ agent b. IsNew domain agent b.value) seats)
    → AreNewPasses IsNew asked passes
new_passes IsNew sizes asked passes seats is many held made = (
  made.0,
  made.1 ∙ is,
  λ i p low.
      let b = element seats i (omega (arith, low, many)) in
      ((slice_index_or seats i b).value, held i p low b, made.2 i b (omega (arith, low, many))),
)
