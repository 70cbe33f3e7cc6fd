-- Journals: lists of steps, to which later steps are only appended, and the entries that a call adds to a history.
use Rattle.std.specs.List.{AllByRecursion}
use Rattle.std.specs.Prelude.{◌≡◌, ℕ, ◌≤◌, List, ◌++◌, filter, ◌==◌, ◌⊎◌}
use mathlib.Core.List.{IsPrefix}

-- the fact holds of two places of this stretch, in their order
abbrev pub Within : ℕ → ℕ → (ℕ → ℕ → Type 0) → Type 0
Within begin end fact = (from : ℕ) × (to : ℕ) × (begin ≤ from) × (from ≤ to) × (to ≤ end) × fact from to

-- the entries of this agent, where `agent_of` tells whose an entry is
abbrev pub own_of : {E : Type 0} → (E → ℕ) → ℕ → List E → List E
own_of agent_of agent es = filter (λ e. agent_of e == agent) es

-- the history goes on: the agent's own entries in what is new are these, and all others are of this crowd
pub record Adds {E : Type 0} (agent_of : E → ℕ) (crowd : ℕ → Type 0) (agent : ℕ) (before own after : List E) : Type 0 where
  pub part : List E
  pub is : after ≡ before ++ part
  pub own_is : own_of agent_of agent part ≡ own
  pub others : AllByRecursion (λ e. (agent_of e ≡ agent) ⊎ crowd (agent_of e)) part

-- two passes learn from each other: each has then seen the longer of their two journals, of which the shorter is the beginning, and
-- in its history the entries of each of the two agents are those that its own pass had seen
pub record LearnsEntries {S E : Type 0} (history : List S → List E) (agent_of : E → ℕ) (agent1 agent2 : ℕ)
    (before1 before2 after1 after2 : List S) : Type 0 where
  pub one : after1 ≡ after2
  pub longer : (IsPrefix before1 before2 × (after1 ≡ before2)) ⊎ (IsPrefix before2 before1 × (after1 ≡ before1))
  pub own1 : own_of agent_of agent1 (history after1) ≡ own_of agent_of agent1 (history before1)
  pub own2 : own_of agent_of agent2 (history after1) ≡ own_of agent_of agent2 (history before2)
