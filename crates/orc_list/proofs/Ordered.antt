-- The discipline of sorted lists, as a search needs it.
use Rattle.orc_heap.specs.Heap.{HeapNumbers}
use Rattle.orc_ordered_search.specs.Reading.{Ordering, ordering_of}
use Rattle.orc_chain_rule.specs.declared.chain.ChainNote.{ChainNote}
use Rattle.orc_list.specs.Laws.Ordered.{list_ordered}

abbrev pub list_ordering : HeapNumbers → Ordering ChainNote
list_ordering n = ordering_of (list_ordered n)
