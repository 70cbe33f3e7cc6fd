-- Options.
use Rattle.std.proofs.Common.{◌≡◌, None, Option, Some, refl}

-- an option that is no value is none
pub none_without : {X : Type 0} (o : Option X) → ((x : X) → o ≡ Some x → ⊥) → o ≡ None
none_without None h = refl
none_without (Some x) h = absurd (h x refl)
