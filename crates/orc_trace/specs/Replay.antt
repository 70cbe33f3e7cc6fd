-- What the replay of a trace answers: the census of its run, or its first fault. The first line is judged first,
-- and then each step in order: whether it can be read, and then whether it is allowed where it stands.
use Rattle.std.specs.Prelude.{◌≡◌, ◌≢◌, ℕ, ◌++◌, List, [], All, length, false, ⊤}
use Rattle.orc_words.specs.Bounds.{Bounds}
use Rattle.orc_core.specs.declared.ops.Op.{Op}
use Rattle.orc_core.specs.Counts.{census_of}
use Rattle.orc_core.specs.Machine.{Machine, is_allowed, new_machine}
use Rattle.orc_core.specs.Runs.{IsLawful, run}
use Rattle.orc_trace.specs.declared.answers.Replayed.{Replayed}
use Rattle.orc_trace.specs.declared.answers.TraceFault.{TraceFault}
use Rattle.orc_trace.specs.declared.answers.TraceFault.TheVariants as fault
use Rattle.orc_trace_text.specs.FirstLines.{HasStepLine, HasTable, IsShapeFault}
use Rattle.orc_trace_text.specs.TraceText.{IsReadable, steps_text}

-- the bytes are the lines of these steps, each readable and allowed where it stands, and then the rest
pub record BeginsWithSteps (b : Bounds) (m : Machine) (front : List (ℕ × Op)) (rest bytes : List ℕ) : Type 0 where
  pub text : bytes ≡ steps_text front ++ rest
  pub readable : All (IsReadable b) front
  pub lawful : IsLawful m front

-- the bytes are a trace: the number of its steps, and the census of their run
abbrev pub IsReplay : List ℕ → Replayed → Type 0
IsReplay bytes r = (b : Bounds) × (lines : List ℕ) × (steps : List (ℕ × Op)) × HasTable b lines bytes × BeginsWithSteps b (new_machine b) steps [] lines
    × (r ≡ record { steps = length steps; census = census_of (run (new_machine b) steps) })

-- what is amiss with the line of a step, on the machine as the steps before it have left it
abbrev pub IsUnreadable : Bounds → List ℕ → Type 0
IsUnreadable b rest = (rest ≢ []) × ((s : ℕ × Op) (more : List ℕ) → ¬ HasStepLine b s more rest)

abbrev pub IsBadRecord : Bounds → Machine → List ℕ → Type 0
IsBadRecord b m rest = (s : ℕ × Op) × (more : List ℕ) × HasStepLine b s more rest × (is_allowed m s.0 s.1 ≡ false)

-- the first fault of the lines, after the steps before it
abbrev pub IsStepFault : Bounds → Machine → List ℕ → TraceFault → Type 0
IsStepFault b m lines (fault.Unreadable n) = (front : List (ℕ × Op)) × (rest : List ℕ) × BeginsWithSteps b m front rest lines × (length front ≡ n) × IsUnreadable b rest
IsStepFault b m lines (fault.NotAllowed n) = (front : List (ℕ × Op)) × (rest : List ℕ) × BeginsWithSteps b m front rest lines × (length front ≡ n)
    × IsBadRecord b (run m front) rest
IsStepFault b m lines (fault.Shape w) = ⊥
IsStepFault b m lines fault.NoMemory = ⊥

-- the bytes are no trace, and this is their first fault; want of memory says nothing of the bytes
abbrev pub RefusesTrace : List ℕ → TraceFault → Type 0
RefusesTrace bytes (fault.Shape w) = IsShapeFault bytes w
RefusesTrace bytes (fault.Unreadable n) = (b : Bounds) × (lines : List ℕ) × HasTable b lines bytes × IsStepFault b (new_machine b) lines (fault.Unreadable n)
RefusesTrace bytes (fault.NotAllowed n) = (b : Bounds) × (lines : List ℕ) × HasTable b lines bytes × IsStepFault b (new_machine b) lines (fault.NotAllowed n)
RefusesTrace bytes fault.NoMemory = ⊤
