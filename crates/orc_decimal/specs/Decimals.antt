-- Numbers as `{}` prints them.
use Rattle.std.specs.Prelude.{◌≡◌, ◌^◌, ◌<◌, List, ℕ}
use Rattle.std.specs.Fmt.{decimal}

-- what printing a number of this many bits gives
abbrev pub IsDecimal : ℕ → List ℕ → Type 0
IsDecimal bits text = (number : ℕ) × (number < 2 ^ bits) × (text ≡ decimal number)
