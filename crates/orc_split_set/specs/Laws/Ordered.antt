-- The discipline of the split-ordered set, as a search needs it.
use Rattle.std.proofs.Common.{refl}
use Rattle.orc_heap.specs.Heap.{HeapNumbers}
use Rattle.orc_ordered_search.specs.Reading.{Orders}
use Rattle.orc_split_rule.proofs.Later.{may_fits, nothing_yet}
use Rattle.orc_split_rule.proofs.OwnEntries.{entries_own}
use Rattle.orc_split_rule.specs.Laws.Kept.{marked_next, split_keeps, split_moves_linked}
use Rattle.orc_split_rule.specs.SplitDiscipline.{SplitHolds, SplitMay}
use Rattle.orc_split_set.specs.SplitSearches.{split_reading}

pub split_ordered : (n : HeapNumbers) → Orders (split_reading n) (SplitHolds n) (SplitMay n)
split_ordered n = record {
  keeps = λ es e holds may. split_keeps n es e holds may;
  fits = λ es e may. may_fits n es e may;
  marked = λ es e id link may own mark. marked_next n es e id link may own mark;
  chains = λ es holds. holds.chains;
  silent = refl;
  own = λ es e may. entries_own n es e may;
  begins = nothing_yet n;
  moves = λ es e holds may. split_moves_linked n es e holds may;
}
