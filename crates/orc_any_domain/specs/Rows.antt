-- The rows that were given, in the order in which they were, each with its place.
use Rattle.std.specs.Prelude.{◌≡◌, ◌==◌, List, [], ◌∷◌, Some, if◌then◌else◌, slice_get, suc, ℕ}

-- present: the place of a row in the list of the rows that were given, which is its node's id
abbrev pub index_of : ℕ → List ℕ → ℕ
index_of row [] = 0
index_of row (x ∷ xs) = if x == row then 0 else suc (index_of row xs)

-- the row stands in the list
abbrev pub IsListed : List ℕ → ℕ → Type 0
IsListed g row = (id : ℕ) × (slice_get g id ≡ Some row)

-- no row stands in the list twice
abbrev pub Once : List ℕ → Type 0
Once g = (i j row : ℕ) → slice_get g i ≡ Some row → slice_get g j ≡ Some row → i ≡ j
