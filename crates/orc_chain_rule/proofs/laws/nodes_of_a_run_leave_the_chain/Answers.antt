use Rattle.orc_chain_rule.proofs.Leaving.{added_off, off_later, unlinked_off}
use Rattle.orc_chain_rule.proofs.laws.nodes_of_a_run_leave_the_chain.Goals as goal

pub returns : goal.returns
returns c = record { unlinked = unlinked_off; added = added_off; later = off_later }
