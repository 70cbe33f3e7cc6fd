-- Lists with room for more.
use Rattle.std.specs.Prelude.{ℕ, List}

-- what contracts see of a list of replies: its items, and for how many more it has room
pub record ListWithRoom (T : Type 0) : Type 0 where
  pub items : List T
  pub spare : ℕ
