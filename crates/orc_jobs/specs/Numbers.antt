-- Numbers as a job file spells them: as `{}` prints them, with one space between two of them.
use Rattle.std.specs.Prelude.{◌≡◌, ◌^◌, ◌<◌, All, List, ℕ, map}
use Rattle.std.specs.Fmt.{decimal}
use Rattle.std.specs.List.{join_with_byte}

-- what printing a number below 2 ^ 32 gives
abbrev pub IsNumber : List ℕ → Type 0
IsNumber text = (number : ℕ) × (number < 2 ^ 32) × (text ≡ decimal number)

-- the text is the prints of these numbers, each below 2 ^ 32, joined by single spaces; of none it is empty
pub record SpellsNumbers (numbers text : List ℕ) : Type 0 where
  pub small : All (λ number. number < 2 ^ 32) numbers
  pub spelling : text ≡ join_with_byte 32 (map decimal numbers)

-- the text spells some numbers, or none
abbrev pub IsNumberList : List ℕ → Type 0
IsNumberList text = (numbers : List ℕ) × SpellsNumbers numbers text
