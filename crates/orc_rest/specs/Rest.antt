-- A state of the machine at rest: no agent has anything under way, and no retired row waits anywhere.
use Rattle.std.specs.Prelude.{List, None, [], false, ℕ, ◌<◌, ◌≡◌}
use Rattle.orc_words.specs.Bounds.{Bounds, IsShape}
use Rattle.orc_words.specs.declared.place.Word.TheVariants.{Handover}
use Rattle.orc_core.specs.Machine.{Machine, new_machine, record_at, word_in}
use Rattle.orc_core.specs.RecordParts.{any_holds}
use Rattle.orc_core.specs.Runs.{run}
use Rattle.orc_core.specs.declared.records.Agent.{Agent}
use Rattle.orc_heap.specs.Allowed.{AllAllowed}
use Rattle.orc_heap.specs.declared.events.Event.{Event}
use Rattle.orc_projection.specs.Projection.{StoresUnmarked, project}
use Rattle.orc_sound.specs.Journals.{IsLawfulJournal, plain}
use Rattle.orc_sound.specs.declared.steps.Step.{Step}

-- the agent holds no row, has none fresh, no change of one pending, and none due, in hand, scanned, doomed or in its work list
pub record IsResting (d : Agent) : Type 0 where
  pub holds : (r : ℕ) → any_holds d.slots r ≡ false
  pub fresh : d.fresh ≡ None
  pub inc : d.inc ≡ None
  pub dec : d.dec ≡ None
  pub due : d.due ≡ None
  pub hand : d.hand ≡ None
  pub scan : d.scan ≡ None
  pub doom : d.doom ≡ None
  pub list : d.list.items ≡ []

-- every agent rests, and every handover word is 0
pub record IsAtRest (m : Machine) : Type 0 where
  pub agents : (a : ℕ) → a < m.bounds.agents → IsResting (record_at m a)
  pub handovers : (a k : ℕ) → a < m.bounds.agents → k < 8 → word_in m (Handover a k) ≡ 0

-- a lawful journal of a table of these bounds. It stores no mark, a discipline allows its events, and it leaves a state at rest
pub record EndsAtRest {N : Type 0} (holds : List (Event N) → Type 0) (may : List (Event N) → Event N → Type 0) (b : Bounds) (steps : List (Step N))
    : Type 0 where
  pub shape : IsShape b
  pub lawful : IsLawfulJournal (new_machine b) steps
  pub unmarked : StoresUnmarked steps
  pub starts : holds []
  pub allowed : AllAllowed may [] (project b steps)
  pub rest : IsAtRest (run (new_machine b) (plain steps))
