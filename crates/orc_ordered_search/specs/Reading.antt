-- How the events of a container with ordered chains are read.
use Rattle.std.specs.Prelude.{Bool, List, None, Option, [], true, ℕ, ◌++◌, ◌∷◌, ◌≡◌}
use Rattle.orc_heap.specs.Heap.{HeapNumbers}
use Rattle.std.specs.List.{AllByRecursion}
use Rattle.orc_heap.specs.Allowed.{HasLink, MovesLinked}
use Rattle.orc_history.specs.SetHistory.{agent_of_set_entry}
use Rattle.orc_heap.specs.Journals.{FitsAfter, run_heap}
use Rattle.orc_heap.specs.declared.events.Link.{Link}
use Rattle.orc_heap.specs.declared.events.Event.{Event}
use Rattle.orc_history.specs.declared.set.SetEntry.{SetEntry}
use Rattle.orc_ordered_chains.specs.Chains.{AreChains, Order}

-- the numbers of the heap, the order of its nodes, what a note enters in the history, and whether a search counts an unmarked node
-- with these values
pub record Reading (N : Type 0) : Type 0 where
  pub numbers : HeapNumbers
  pub order : Order
  pub entries_in : Option N → List SetEntry
  pub counts : Option ℕ → Option ℕ → Bool

-- the same without the numbers, on which the order may rest
pub record Manner (N : Type 0) : Type 0 where
  pub order : Order
  pub entries_in : Option N → List SetEntry
  pub counts : Option ℕ → Option ℕ → Bool

abbrev pub reading_by : {N : Type 0} → HeapNumbers → (HeapNumbers → Manner N) → Reading N
reading_by n manner = record { numbers = n; order = (manner n).order; entries_in = (manner n).entries_in; counts = (manner n).counts }

-- what a discipline, by what holds of events and which it allows, owes to a search along its chains
pub record Orders {N : Type 0} (reading : Reading N) (holds : List (Event N) → Type 0) (may : List (Event N) → Event N → Type 0) : Type 0 where
  -- an event that is allowed fits, and keeps the discipline and each marked link
  pub keeps : (es : List (Event N)) (e : Event N) → holds es → may es e → holds (es ++ e ∷ [])
  pub fits : (es : List (Event N)) (e : Event N) → may es e → FitsAfter reading.numbers es e
  pub marked : (es : List (Event N)) (e : Event N) (id : ℕ) (link : Link) → may es e → HasLink (run_heap reading.numbers es) id link → link.mark ≡ true
      → HasLink (run_heap reading.numbers (es ++ e ∷ [])) id link
  -- the chains of what obeys it
  pub chains : (es : List (Event N)) → holds es → AreChains reading.order (run_heap reading.numbers es)
  -- what has no note enters nothing, and what is entered has the event's agent
  pub silent : reading.entries_in None ≡ []
  pub own : (es : List (Event N)) (e : Event N) → may es e → AllByRecursion (λ (x : SetEntry). agent_of_set_entry x ≡ e.agent) (reading.entries_in e.note)
  -- the empty list obeys it, and a Move leads to linked nodes alone
  pub begins : holds []
  pub moves : (es : List (Event N)) (e : Event N) → holds es → may es e → MovesLinked e.act (run_heap reading.numbers es)

-- a discipline that does
pub record Ordering (N : Type 0) : Type 1 where
  pub reading : Reading N
  pub holds : List (Event N) → Type 0
  pub may : List (Event N) → Event N → Type 0
  pub owes : Orders reading holds may

abbrev pub ordering_of : {N : Type 0} {reading : Reading N} {holds : List (Event N) → Type 0} {may : List (Event N) → Event N → Type 0}
    → Orders reading holds may → Ordering N
ordering_of {N} {reading} {holds} {may} owes = record { reading = reading; holds = holds; may = may; owes = owes }
