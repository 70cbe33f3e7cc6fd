-- How the events of sorted lists are read.
use Rattle.std.specs.Prelude.{false}
use Rattle.orc_heap.specs.Heap.{HeapNumbers}
use Rattle.orc_ordered_search.specs.Reading.{Manner, Reading, reading_by}
use Rattle.orc_chain_rule.specs.declared.chain.ChainNote.{ChainNote}
use Rattle.orc_chain_rule.specs.ChainDiscipline.{chain_order, entries_in}

-- the events of sorted lists, whose nodes stand in order of their keys; a search counts none
abbrev pub list_manner : HeapNumbers → Manner ChainNote
list_manner n = record { order = chain_order n.roots; entries_in = entries_in; counts = λ first second. false }

abbrev pub list_reading : HeapNumbers → Reading ChainNote
list_reading n = reading_by n list_manner
