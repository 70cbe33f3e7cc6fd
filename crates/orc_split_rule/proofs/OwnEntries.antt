-- Whose the entries of allowed events are.
use Rattle.std.proofs.Common.{List, Option, Some, ℕ}
use Rattle.orc_heap.specs.Heap.{HeapNumbers}
use Rattle.orc_heap.specs.declared.events.Event.{Event}
use Rattle.orc_split_rule.specs.declared.split.SplitNote.{SplitNote}
use Rattle.orc_split_rule.specs.declared.split.SplitNote.TheVariants.{Entry}
use Rattle.orc_split_rule.specs.SplitDiscipline.{IsOwnEntry, SplitMay, entries_in}
use Rattle.orc_ordered_chains.specs.Answers.{AreOf}

of_note : (by : ℕ) (noted : Option SplitNote) → IsOwnEntry by noted → AreOf by (entries_in noted)
of_note by (Some (Entry entry)) own = (own, tt)
of_note by noted own = tt

-- each entry of an allowed event is of the event's agent
pub entries_own : (n : HeapNumbers) (es : List (Event SplitNote)) (e : Event SplitNote) → SplitMay n es e → AreOf e.agent (entries_in e.note)
entries_own n es e may = of_note e.agent e.note may.own
