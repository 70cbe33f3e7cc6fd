-- The part of a journal that a call makes.
use Rattle.std.specs.List.{list_all}
use Rattle.std.specs.Prelude.{List, [], drop, if◌then◌else◌, length, suc, true, ℕ, ◌<◌, ◌==◌, ◌∷◌, ◌≡◌}
use Rattle.orc_history.specs.Journals.{Within}

-- the place of the agent's first step, where the steps begin at this place; the end of the steps if it has none
abbrev pub first_step : {S : Type 0} → (S → ℕ) → ℕ → ℕ → List S → ℕ
first_step agent_of agent place [] = place
first_step agent_of agent place (s ∷ ss) = if agent_of s == agent then place else first_step agent_of agent (suc place) ss

-- the place at which a call's part of the journal begins: the first step of its agent since the journal before
abbrev pub part_begin : {S : Type 0} → (S → ℕ) → ℕ → List S → List S → ℕ
part_begin agent_of agent before after = first_step agent_of agent (length before) (drop (length before) after)

-- the call's part of the journal
abbrev pub part_of : {S : Type 0} → (S → ℕ) → ℕ → List S → List S → List S
part_of agent_of agent before after = drop (part_begin agent_of agent before after) after

-- a fact of the two places between which the call's part stands
abbrev pub InPart : {S : Type 0} → (S → ℕ) → ℕ → List S → List S → (ℕ → ℕ → Type 0) → Type 0
InPart agent_of agent before after fact = fact (part_begin agent_of agent before after) (length after)

-- no other agent has a step in the call's part
abbrev pub IsAlone : {S : Type 0} → (S → ℕ) → ℕ → List S → List S → Type 0
IsAlone agent_of agent before after = list_all (λ s. agent_of s == agent) (part_of agent_of agent before after) ≡ true

-- a fact of two places of the call's part of the journal, which its agent's first step begins
pub record WithinPart {S : Type 0} (agent_of : S → ℕ) (agent : ℕ) (before after : List S) (Fact : ℕ → ℕ → Type 0) : Type 0 where
  pub begun : part_begin agent_of agent before after < length after
  pub within : Within (part_begin agent_of agent before after) (length after) Fact
