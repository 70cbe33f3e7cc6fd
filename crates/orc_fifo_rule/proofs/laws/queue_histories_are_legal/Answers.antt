use Rattle.std.proofs.Common.{[]}
use Rattle.orc_fifo_rule.proofs.Later.{first_later, holds_later, nothing_yet}
use Rattle.orc_heap.proofs.OwnEntries.{own_of_events}
use Rattle.orc_history.specs.QueueHistory.{agent_of_entry}
use Rattle.orc_fifo_rule.specs.QueueDiscipline.{FifoMay, entries_in}
use Rattle.orc_fifo_rule.proofs.OwnEntries.{entries_own}
use Rattle.orc_fifo_rule.proofs.laws.queue_histories_are_legal.Goals as goal

pub returns-clause-from_nothing : goal.returns-clause-from_nothing
returns-clause-from_nothing c = λ n es all. (holds_later n [] es (nothing_yet n) all).legal

pub returns-clause-first : goal.returns-clause-first
returns-clause-first c = first_later

pub returns-clause-own : goal.returns-clause-own
returns-clause-own c = λ n agent seen more all. own_of_events entries_in agent_of_entry (FifoMay n) (entries_own n) agent seen more all
