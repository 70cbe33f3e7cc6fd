-- Families of lists by place, and lists without an item.
use Rattle.std.proofs.Common.{◌≡◌, ℕ, zero, suc, arith, ◌≤◌, length, List, [], ◌∷◌, refl}
use Rattle.orc_stages.specs.Stage.{QueueShare}

-- the first, and then those of a family
abbrev pub ahead : {X : Type 0} → X → (ℕ → X) → ℕ → X
ahead x f zero = x
ahead x f (suc i) = f i

abbrev pub nowhere : ℕ → List QueueShare
nowhere i = []

pub no_items : {X : Type 0} (xs : List X) → length xs ≤ 0 → xs ≡ []
no_items [] h = refl
no_items (x ∷ xs) h = absurd (omega (arith, h))
