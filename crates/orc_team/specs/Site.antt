-- What contracts see of the containers that a team works at.
use Rattle.std.specs.Prelude.{ℕ, List}

-- one container, or several; D is a desk, which has a pass of each
pub record Site (D : Type 0) : Type 1 where
  -- the containers, and of each: a step of its journal, and an entry of its history
  pub Container : Type 0
  pub Step : Container → Type 0
  pub Entry : Container → Type 0
  -- the agent of an entry
  pub agent_of : (c : Container) → Entry c → ℕ
  -- the entries that stand in a journal
  pub history : (c : Container) → List (Step c) → List (Entry c)
  -- the steps that the desk's pass of a container has seen
  pub journal : (c : Container) → D → List (Step c)
  -- the passes of the desk are passes of these containers, idle, and all of this agent
  pub usable : ℕ → D → Type 0
