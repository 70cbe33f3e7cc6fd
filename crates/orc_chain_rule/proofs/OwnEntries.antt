-- Whose the entries of allowed events are.
use Rattle.std.proofs.Common.{List, Option, Some, ℕ}
use Rattle.orc_heap.specs.Heap.{HeapNumbers}
use Rattle.orc_heap.specs.declared.events.Event.{Event}
use Rattle.orc_chain_rule.specs.declared.chain.ChainNote.{ChainNote}
use Rattle.orc_chain_rule.specs.declared.chain.ChainNote.TheVariants.{Entry}
use Rattle.orc_chain_rule.specs.ChainDiscipline.{ChainMay, IsOwnEntry, entries_in}
use Rattle.orc_ordered_chains.specs.Answers.{AreOf}

of_note : (by : ℕ) (noted : Option ChainNote) → IsOwnEntry by noted → AreOf by (entries_in noted)
of_note by (Some (Entry entry)) own = (own, tt)
of_note by noted own = tt

-- each entry of an allowed event is of the event's agent
pub entries_own : (n : HeapNumbers) (es : List (Event ChainNote)) (e : Event ChainNote) → ChainMay n es e → AreOf e.agent (entries_in e.note)
entries_own n es e may = of_note e.agent e.note may.own
