-- What the contracts of a container say of a pass of its domain of links before a call, `old`, and after it, `new`.
use Rattle.std.specs.Prelude.{List, Option, length, ℕ, ◌+◌, ◌<◌, ◌≡◌, ◌≤◌}
use Rattle.orc_heap.specs.Allowed.{events_by}
use Rattle.orc_heap.specs.Heap.{Heap}
use Rattle.orc_heap.specs.Journals.{noted_entries}
use Rattle.orc_heap.specs.Moves.{gives_in}
use Rattle.orc_heap.specs.Seats.{heap_of}
use Rattle.orc_heap.specs.declared.events.Event.{Event}
use Rattle.orc_heap.specs.declared.links.Links.{Ghosts as LinksOf}
use Rattle.orc_history.specs.Journals.{Adds}
use Rattle.orc_history.specs.Parts.{InPart, IsAlone}

module _ {L D P S N : Type 0} (members : LinksOf L D P S N) (links : L) where
  -- the number of the pass's agent
  abbrev pub agent : P → ℕ
  agent p = (members.seat links p).agent

  -- the heap that the pass has seen
  abbrev pub heap : P → Heap
  heap p = heap_of (members.numbers links) (members.seat links p)

  -- the events of its own agent that the pass has seen
  abbrev pub own_events : P → List (Event N)
  own_events p = events_by (agent p) (members.seat links p).seen

  -- the call made no event of its own
  abbrev pub MakesNoEvent : P → P → Type 0
  MakesNoEvent old new = own_events new ≡ own_events old

  -- it made at most so many
  abbrev pub MakesAtMost : ℕ → P → P → Type 0
  MakesAtMost most old new = length (own_events new) ≤ length (own_events old) + most

  -- it gave so many nodes
  abbrev pub GivesNodes : ℕ → P → P → Type 0
  GivesNodes count old new = gives_in (own_events new) ≡ gives_in (own_events old) + count

  -- no other agent has a step in the call's part of the journal
  abbrev pub IsCallAlone : P → P → Type 0
  IsCallAlone old new = IsAlone members.agent_of (agent old) (members.journal old) (members.journal new)

  -- a fact of the two places between which the call's part of the journal stands
  abbrev pub InCall : P → P → (ℕ → ℕ → Type 0) → Type 0
  InCall old new fact = InPart members.agent_of (agent old) (members.journal old) (members.journal new) fact

  module _ {E : Type 0} (agent_of_entry : E → ℕ) (entries_in : Option N → List E) where
    -- the history that the pass has seen
    abbrev pub history : P → List E
    history p = noted_entries entries_in (members.events links (members.journal p))

    -- the call enters these entries, and others' entries may stand among them
    abbrev pub Enters : P → P → List E → Type 0
    Enters old new entries = Adds agent_of_entry (λ by. by < members.agents links) (agent old) (history old) entries (history new)
