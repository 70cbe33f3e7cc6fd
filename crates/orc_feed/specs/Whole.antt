-- What is read and written by many calls in a row.
use Rattle.std.specs.Prelude.{◌≡◌, ◌≤◌, ◌<◌, ◌++◌, List, [], ℕ, length}
use Rattle.std.specs.Io.KnownBytes.{Appends, Consumes}
use Rattle.std.specs.declared.option.Option.{Option}
use Rattle.std.specs.declared.option.Option.TheVariants.{Some}

-- these bytes were left, and were taken with a limit: all of them, and then none is left, or more than the limit, and then more were left
pub record TakesWhole (limit : ℕ) (bytes : List ℕ) (after : Option (List ℕ)) (taken : List ℕ) : Type 0 where
  pub all : length taken ≤ limit → (taken ≡ bytes) × (after ≡ Some [])
  pub more : limit < length taken → limit < length bytes

-- so many bytes at most were taken from the front
abbrev pub TakesAtMost : ℕ → Option (List ℕ) → Option (List ℕ) → Type 0
TakesAtMost most old new = (front : List ℕ) × Consumes old new front × (length front ≤ most)

-- what was written is a prefix of this text
abbrev pub AppendsPrefix : Option (List ℕ) → Option (List ℕ) → List ℕ → Type 0
AppendsPrefix old new text = (front rest : List ℕ) × (text ≡ front ++ rest) × Appends old new front
