-- How many Swings and Tooks stand in a list of events and its history, and the entries and Moves without some.
use Rattle.std.specs.Prelude.{List, Option, Some, None, [], filter, not, ℕ, ◌+◌, ◌==◌, ◌∷◌}
use Rattle.orc_heap.specs.Moves.{moves_place}
use Rattle.orc_heap.specs.declared.events.Event.{Event}
use Rattle.orc_heap.specs.declared.events.Place.TheVariants.{Root}
use Rattle.orc_history.specs.QueueHistory.{agent_of_entry}
use Rattle.orc_history.specs.declared.queue.QueueEntry.{QueueEntry}
use Rattle.orc_history.specs.declared.queue.QueueEntry.TheVariants.{Empty, Put, Took}
use Rattle.orc_fifo_rule.specs.declared.fifo.FifoNote.{FifoNote}
use Rattle.orc_fifo_rule.specs.declared.fifo.FifoNote.TheVariants.{Begin, Entry, Swing}

-- 1 for a Swing, and 0 for anything else
abbrev pub swings_with : Option FifoNote → ℕ
swings_with (Some Swing) = 1
swings_with (Some (Entry entry)) = 0
swings_with (Some Begin) = 0
swings_with None = 0

-- how many Swings stand in the events
abbrev pub swings_in : List (Event FifoNote) → ℕ
swings_in [] = 0
swings_in (e ∷ es) = swings_with e.note + swings_in es

-- how many Tooks stand in the history
abbrev pub tooks_in : List QueueEntry → ℕ
tooks_in [] = 0
tooks_in (Put agent job at ∷ es) = tooks_in es
tooks_in (Took agent job at ∷ es) = tooks_in es + 1
tooks_in (Empty agent ∷ es) = tooks_in es

-- the entries of agents other than this one
abbrev pub entries_of_others : ℕ → List QueueEntry → List QueueEntry
entries_of_others agent es = filter (λ e. not (agent_of_entry e == agent)) es

-- the events that are no Move of root 0
abbrev pub off_the_head : List (Event FifoNote) → List (Event FifoNote)
off_the_head es = filter (λ e. not (moves_place (Root 0) e.act)) es
