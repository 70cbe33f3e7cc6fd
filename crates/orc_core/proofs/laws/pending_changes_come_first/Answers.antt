use Rattle.orc_core.proofs.Order.{nothing_pending}
use Rattle.orc_core.proofs.Within.{may_parts}
use Rattle.orc_core.proofs.laws.pending_changes_come_first.Goals as goal

pub returns-clause-others : goal.returns-clause-others
returns-clause-others c b e a op d n h = nothing_pending d.due d.inc d.dec op n (may_parts b e a op d h).forced
