-- The passes of a run are all passes of their container.
use Rattle.std.proofs.Common.{All, List, length, slice_index_or, ℕ, ◌<◌, ◌≡◌}

-- usable passes of a container, so many, in order of agent
pub record ArePasses {X : Type 0} (is_usable : X → Type 0) (agent_of : X → ℕ) (many_are : ℕ) (ps : List X) : Type 0 where
  pub usable : All is_usable ps
  pub numbered : (i : ℕ) (p : X) → i < length ps → agent_of (slice_index_or ps i p) ≡ i
  pub many : length ps ≡ many_are
