-- The numbers of a table, and the ranges that they must keep.
use Rattle.std.specs.Prelude.{◌≡◌, ℕ, ◌+◌, ◌^◌, ◌≤◌}
use Rattle.orc_words.specs.declared.shape.Shape.{Shape}
use Rattle.orc_words.specs.declared.shape.ShapeFault.{ShapeFault}
use Rattle.orc_words.specs.declared.shape.ShapeFault.TheVariants.{Rows, Roots, Agents, Limit, Links}

-- the rows, roots and agents of a table, the limit of its lives and sequences, and the links of a row
pub record Bounds : Type 0 where
  pub rows : ℕ
  pub roots : ℕ
  pub agents : ℕ
  pub limit : ℕ
  pub links : ℕ

-- the numbers of a shape
abbrev pub bounds_of : Shape → Bounds
bounds_of s = record { rows = s.rows; roots = s.roots; agents = s.agents; limit = s.limit; links = s.links }

-- from which sequence on a row is linked no more
abbrev pub link_limit : Bounds → ℕ
link_limit b = b.limit + 64

-- n is at least low and at most high
abbrev pub IsBetween : ℕ → ℕ → ℕ → Type 0
IsBetween low high n = (low ≤ n) × (n ≤ high)

-- every number is in range
pub record IsShape (b : Bounds) : Type 0 where
  pub rows : IsBetween 2 65535 b.rows
  pub roots : IsBetween 1 257 b.roots
  pub agents : IsBetween 1 16 b.agents
  pub limit : IsBetween 1 (2 ^ 39) b.limit
  pub links : IsBetween 1 2 b.links

-- the fault is the first number that is out of range, in the order of rows, roots, agents, limit and links
abbrev pub IsFirstFault : Bounds → ShapeFault → Type 0
IsFirstFault b (Rows n) = (n ≡ b.rows) × ¬ IsBetween 2 65535 b.rows
IsFirstFault b (Roots n) = (n ≡ b.roots) × IsBetween 2 65535 b.rows × ¬ IsBetween 1 257 b.roots
IsFirstFault b (Agents n) = (n ≡ b.agents) × IsBetween 2 65535 b.rows × IsBetween 1 257 b.roots × ¬ IsBetween 1 16 b.agents
IsFirstFault b (Limit n) = (n ≡ b.limit) × IsBetween 2 65535 b.rows × IsBetween 1 257 b.roots × IsBetween 1 16 b.agents × ¬ IsBetween 1 (2 ^ 39) b.limit
IsFirstFault b (Links n) = (n ≡ b.links) × IsBetween 2 65535 b.rows × IsBetween 1 257 b.roots × IsBetween 1 16 b.agents × IsBetween 1 (2 ^ 39) b.limit × ¬ IsBetween 1 2 b.links
