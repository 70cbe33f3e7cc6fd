-- In which order an agent's searches go over the rows.
use Rattle.std.specs.Prelude.{ℕ, ◌%◌, ◌*◌, ◌+◌, ◌/◌, ◌<◌, ◌≡◌}
use Rattle.orc_words.specs.Bounds.{Bounds}

-- the row with which an agent's first search begins
abbrev pub first_row : Bounds → ℕ → ℕ
first_row b agent = agent * b.rows / b.agents

-- the row is the first one, once round from `begin` on, that wasn't passed over
pub record IsNext (rows begin : ℕ) (IsPassedOver : ℕ → Type 0) (row : ℕ) : Type 0 where
  pub offset : ℕ
  pub low : offset < rows
  pub is : row ≡ (begin + offset) % rows
  pub passed : (k : ℕ) → k < offset → IsPassedOver ((begin + k) % rows)
