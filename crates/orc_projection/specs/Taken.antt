-- The rows that were taken, in order. The node of id i lies in the row that was taken as the i-th, counted from 0.
use Rattle.std.specs.Prelude.{List, Some, [], if◌then◌else◌, ℕ, ◌++◌, ◌∷◌, ◌≡◌}
use Rattle.orc_core.specs.Machine.{Machine, new_machine, record_at, step, word_read}
use Rattle.orc_core.specs.declared.ops.Op.{Op}
use Rattle.orc_core.specs.declared.ops.Op.TheVariants.{GateTake}
use Rattle.orc_core.specs.declared.records.Agent.{Agent}
use Rattle.orc_projection.specs.Projection.{is_taken}
use Rattle.orc_sound.specs.Linked.{IsOut}
use Rattle.orc_sound.specs.declared.steps.Step.{Step}
use Rattle.orc_words.specs.Bounds.{Bounds}
use Rattle.orc_words.specs.declared.packed.RowLink.{RowLink}

-- the row that a step takes, by an agent with record d that read the word w
abbrev pub taken_by : Agent → ℕ → Op → List ℕ
taken_by d w (GateTake r) = if is_taken d w then r ∷ [] else []
taken_by d w op = []

-- the rows that these steps take, from this state on
abbrev pub rows_taken_from : {N : Type 0} → Machine → List (Step N) → List ℕ
rows_taken_from m [] = []
rows_taken_from m (s ∷ ss) = taken_by (record_at m s.agent) (word_read m s.agent s.op) s.op ++ rows_taken_from (step m s.agent s.op) ss

-- from a new state on
abbrev pub rows_taken : {N : Type 0} → Bounds → List (Step N) → List ℕ
rows_taken b steps = rows_taken_from (new_machine b) steps

-- the target, if the link has one, is a row that is out
abbrev pub LinksOut : Machine → RowLink → Type 0
LinksOut m l = (r : ℕ) → l.to ≡ Some r → IsOut m r
