-- A work list: its rows, oldest first, and the places that were reserved for them.
use Rattle.std.specs.Prelude.{ℕ, List, [], ◌∷◌, ◌++◌, drop, Bool, false, ◌==◌, Option, Some, None}

-- the rows of a work list, and how many it has room for
pub record Listed : Type 0 where
  pub items : List ℕ
  pub room : ℕ

-- with one more row at the end
abbrev pub listed_more : Listed → ℕ → Listed
listed_more l r = record { items = l.items ++ r ∷ []; room = l.room }

-- without the first row
abbrev pub listed_rest : Listed → Listed
listed_rest l = record { items = drop 1 l.items; room = l.room }

-- with the row that is named, if one is
abbrev pub listed_name : Listed → Option ℕ → Listed
listed_name l None = l
listed_name l (Some r) = listed_more l r

-- the first row is this one
abbrev pub first_is : List ℕ → ℕ → Bool
first_is [] r = false
first_is (q ∷ qs) r = q == r
