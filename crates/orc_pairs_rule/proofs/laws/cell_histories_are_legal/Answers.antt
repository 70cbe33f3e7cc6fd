use Rattle.std.proofs.Common.{[]}
use Rattle.orc_heap.proofs.OwnEntries.{own_of_events}
use Rattle.orc_pairs_rule.proofs.Later.{holds_later, nothing_yet}
use Rattle.orc_pairs_rule.proofs.OwnEntries.{entries_own}
use Rattle.orc_pairs_rule.specs.CellHistory.{agent_of_entry}
use Rattle.orc_pairs_rule.specs.PairsDiscipline.{PairsMay, entries_in}
use Rattle.orc_pairs_rule.proofs.laws.cell_histories_are_legal.Goals as goal

pub returns : goal.returns
returns c = record {
  legal = λ n es some all. (holds_later n [] es all (nothing_yet n some)).legal;
  shows = λ n es some all. (holds_later n [] es all (nothing_yet n some)).shows;
  own = λ n agent seen more all. own_of_events entries_in agent_of_entry (PairsMay n) (entries_own n) agent seen more all;
}
