-- The actual journal of a domain at rest, and what is said of its rows.
use Rattle.std.specs.Prelude.{◌≡◌, List, []}
use mathlib.Core.List.{IsPrefix}
use Rattle.orc_words.specs.Bounds.{Bounds}
use Rattle.orc_core.specs.Machine.{new_machine}
use Rattle.orc_core.specs.declared.records.Agent.{Agent}
use Rattle.orc_sound.specs.Journals.{IsLawfulJournal}
use Rattle.orc_sound.specs.declared.steps.Step.{Step}
use Rattle.orc_heap.specs.Allowed.{AllAllowed}
use Rattle.orc_heap.specs.Heap.{HeapNumbers}
use Rattle.orc_heap.specs.declared.discipline.Discipline as discipline
use Rattle.orc_heap.specs.declared.events.Event.{Event}
use Rattle.orc_heap.specs.declared.seed.Seed.{Seed}
use Rattle.orc_projection.specs.Mirror.{numbers_of}
use Rattle.orc_projection.specs.Projection.{StoresUnmarked, project}
use Rattle.orc_shared_words.specs.Runs.{AgentsBelow}
use Rattle.orc_shared_words.specs.declared.machine.Machine as machine
use Rattle.orc_machine_board.specs.Rules.{machine_opening}
use Rattle.orc_machine_board.specs.declared.machine.MachineShape.{MachineShape}
use Rattle.orc_machine_board.specs.declared.machine.Reclaiming.{Reclaiming}
use Rattle.orc_machine_board.specs.declared.machine.Request.{Request}
use Rattle.orc_domain.specs.Passes.{domain_bounds}
use Rattle.orc_domain.specs.Rest.{IsShown, rest_domain, rest_journal}
use Rattle.orc_domain.specs.declared.at_rest.OrcRest.{OrcRest}
use Rattle.orc_at_rest.specs.Reuse.{LeaksNothing, ReusesSafely}

module _ {D N : Type 0} {d : discipline.Ghosts D N} {m : machine.Ghosts Reclaiming N (MachineShape N) Request (Step N) Agent Agent} where
  -- the domain has these sizes, and its board has shown the journal: one lawful list of the steps of its agents, which stores no
  -- mark, begins with the steps of the opening, and whose events the discipline allows where they stand
  pub record HasJournal (may : HeapNumbers → List (Event N) → Event N → Type 0) (b : Bounds) (seed : Seed N) (r : OrcRest D N d m) : Type 0 where
    pub sizes : domain_bounds (rest_domain r) ≡ b
    pub shown : IsShown r
    pub lawful : IsLawfulJournal (new_machine b) (rest_journal r)
    pub unmarked : StoresUnmarked (rest_journal r)
    pub begins : IsPrefix (machine_opening b.agents seed) (rest_journal r)
    pub allowed : AllAllowed (may (numbers_of b)) [] (project b (rest_journal r))
    pub agents_below : AgentsBelow (λ (s : Step N). s.agent) b.agents (rest_journal r)

  -- no row of the journal was used again while it was linked or held, nor twice
  abbrev pub ReusesRowsSafely : Bounds → OrcRest D N d m → Type 0
  ReusesRowsSafely b r = ReusesSafely b (rest_journal r)

  -- the journal is at rest, and what was given was freed or is linked
  abbrev pub EndsWithoutLeak : Bounds → OrcRest D N d m → Type 0
  EndsWithoutLeak b r = LeaksNothing b (rest_journal r)
