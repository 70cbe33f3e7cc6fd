-- The discipline of sorted lists, as a search needs it.
use Rattle.std.proofs.Common.{refl}
use Rattle.orc_heap.specs.Heap.{HeapNumbers}
use Rattle.orc_ordered_search.specs.Reading.{Orders}
use Rattle.orc_chain_rule.proofs.Later.{may_fits, nothing_yet}
use Rattle.orc_chain_rule.proofs.OwnEntries.{entries_own}
use Rattle.orc_chain_rule.specs.ChainDiscipline.{ChainHolds, ChainMay}
use Rattle.orc_chain_rule.specs.Laws.Kept.{chain_keeps, chain_moves_linked, marked_next}
use Rattle.orc_list.specs.Searches.{list_reading}

pub list_ordered : (n : HeapNumbers) → Orders (list_reading n) (ChainHolds n) (ChainMay n)
list_ordered n = record {
  keeps = λ es e holds may. chain_keeps n es e holds may;
  fits = λ es e may. may_fits n es e may;
  marked = λ es e id link may own mark. marked_next n es e id link may own mark;
  chains = λ es holds. holds.chains.ordered;
  silent = refl;
  own = λ es e may. entries_own n es e may;
  begins = nothing_yet n;
  moves = λ es e holds may. chain_moves_linked n es e holds may;
}
