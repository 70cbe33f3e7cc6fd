-- The steps of a board's journal: each is a step of the machine, with the link that its caller wanted and a note.
use Rattle.std.specs.Prelude.{List, None, Option, Some, [], true, ℕ, ◌∷◌, ◌≡◌}
use Rattle.orc_words.specs.declared.packed.RowLink.{RowLink}
use Rattle.orc_core.specs.Machine.{Machine, is_allowed, record_at, step}
use Rattle.orc_core.specs.RecordParts.{any_holds}
use Rattle.orc_core.specs.declared.ops.Op.{Op}
use Rattle.orc_core.specs.declared.ops.Op.TheVariants.{LinkLoad}
use Rattle.orc_core.specs.declared.records.Agent.{Agent}
use Rattle.orc_sound.specs.declared.steps.Step.{Step}

-- the agent and the op of each step
abbrev pub plain : {N : Type 0} → List (Step N) → List (ℕ × Op)
plain [] = []
plain (s ∷ ss) = (s.agent, s.op) ∷ plain ss

-- no row is named, or one that the agent holds
abbrev pub IsHeldOrNull : Agent → Option ℕ → Type 0
IsHeldOrNull d None = Unit {0}
IsHeldOrNull d (Some r) = any_holds d.slots r ≡ true

-- the target of a link that a load wants is null, or held by the agent
abbrev pub IsWanted : Agent → Op → Option RowLink → Type 0
IsWanted d (LinkLoad p k) (Some l) = IsHeldOrNull d l.to
IsWanted d _ _ = Unit {0}

-- each step is allowed where it stands, and wants what it may want there
abbrev pub IsLawfulJournal : {N : Type 0} → Machine → List (Step N) → Type 0
IsLawfulJournal m [] = Unit {0}
IsLawfulJournal m (s ∷ ss) = (is_allowed m s.agent s.op ≡ true) × IsWanted (record_at m s.agent) s.op s.want × IsLawfulJournal (step m s.agent s.op) ss
