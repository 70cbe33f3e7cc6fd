-- Whose the entries of allowed events are.
use Rattle.std.proofs.Common.{List, Option, Some, ℕ, ◌≡◌}
use Rattle.std.specs.List.{AllByRecursion}
use Rattle.orc_heap.specs.Heap.{HeapNumbers}
use Rattle.orc_heap.specs.declared.events.Event.{Event}
use Rattle.orc_history.specs.QueueHistory.{agent_of_entry}
use Rattle.orc_history.specs.declared.queue.QueueEntry.{QueueEntry}
use Rattle.orc_fifo_rule.specs.declared.fifo.FifoNote.{FifoNote}
use Rattle.orc_fifo_rule.specs.declared.fifo.FifoNote.TheVariants.{Entry}
use Rattle.orc_fifo_rule.specs.QueueDiscipline.{FifoMay, MayEnter, entries_in}

of_note : (first : ℕ) (history : List QueueEntry) (by : ℕ) (noted : Option FifoNote) → MayEnter first history by noted
    → AllByRecursion (λ (x : QueueEntry). agent_of_entry x ≡ by) (entries_in noted)
of_note first history by (Some (Entry entry)) may = (may.0, tt)
of_note first history by noted may = tt

-- each entry of an allowed event is of the event's agent
pub entries_own : (n : HeapNumbers) (es : List (Event FifoNote)) (e : Event FifoNote) → FifoMay n es e
    → AllByRecursion (λ (x : QueueEntry). agent_of_entry x ≡ e.agent) (entries_in e.note)
entries_own n es e may = of_note _ _ e.agent e.note may.may_enter
