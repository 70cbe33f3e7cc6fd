-- The steps with which an agent looks at all gates.
use Rattle.std.specs.Prelude.{List, None, [], suc, true, zero, ◌++◌, ◌∷◌, ◌≡◌, ℕ}
use Rattle.orc_core.specs.declared.ops.Op.TheVariants.{GateLook}
use Rattle.orc_core.specs.declared.records.Agent.{Agent}
use Rattle.orc_machine_board.specs.Rules.{does}
use Rattle.orc_sound.specs.declared.steps.Step.{Step}

-- the agent looks at the gates of the first rows, in order
abbrev pub gate_looks : {N : Type 0} → ℕ → ℕ → List (Step N)
gate_looks a zero = []
gate_looks a (suc n) = gate_looks a n ++ does a (GateLook n) None ∷ []

-- the agent is enrolled, and has no change pending and no row due
pub record MayLookAtGates (d : Agent) : Type 0 where
  pub enrolled : d.enrolled ≡ true
  pub due : d.due ≡ None
  pub inc : d.inc ≡ None
  pub dec : d.dec ≡ None
