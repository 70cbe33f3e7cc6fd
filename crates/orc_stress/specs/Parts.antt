-- The parts of agents in a run.
use Rattle.std.specs.Prelude.{List, [], if◌then◌else◌, nat_lt, ℕ, ◌+◌, ◌++◌, ◌∷◌, ◌≡◌}
use Rattle.orc_stress.specs.Answers.{calls_of}
use Rattle.orc_stress.specs.Passes.{Stay}
use Rattle.orc_stress.specs.declared.agents.Ran.{Ran as RanOf}
use Rattle.orc_stress.specs.declared.load.Plan.{Plan}

-- how many calls the agent of this number makes
abbrev pub calls_of_agent : Plan → ℕ → ℕ
calls_of_agent plan agent = if nat_lt agent plan.threads then plan.load.calls else 0

-- how many calls the agents of these passes make
abbrev pub calls_of_agents : {P : Type 0} → Plan → (P → ℕ) → List P → ℕ
calls_of_agents plan agent [] = 0
calls_of_agents plan agent (p ∷ ps) = calls_of_agent plan (agent p) + calls_of_agents plan agent ps

-- the agents that waited have done their parts, and their passes stand behind those that were done before
pub record HaveRun {P : Type 0} (ready : P → Type 0) (agent : P → ℕ) (plan : Plan) (waiting before : List P) (ran : RanOf P) : Type 0 where
  pub new : List P
  pub is : ran.passes.items ≡ before ++ new
  pub stay : Stay ready agent waiting new
  pub calls : calls_of ran.tally.answers ≡ calls_of_agents plan agent waiting
