use Rattle.std.proofs.Common.{[]}
use Rattle.orc_heap.proofs.OwnEntries.{own_of_events}
use Rattle.orc_history.specs.SetHistory.{agent_of_set_entry}
use Rattle.orc_split_rule.proofs.Later.{holds_later, nothing_yet}
use Rattle.orc_split_rule.proofs.OwnEntries.{entries_own}
use Rattle.orc_split_rule.specs.SplitDiscipline.{SplitMay, entries_in}
use Rattle.orc_split_rule.proofs.laws.set_histories_are_legal.Goals as goal

pub returns : goal.returns
returns c = record {
  legal = λ n es holds. holds.legal;
  from_nothing = λ n es all. (holds_later n [] es (nothing_yet n) all).legal;
  own = λ n agent seen more all. own_of_events entries_in agent_of_set_entry (SplitMay n) (entries_own n) agent seen more all;
}
