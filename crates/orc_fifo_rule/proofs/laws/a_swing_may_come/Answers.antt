use Rattle.orc_fifo_rule.proofs.Coming.{swing_allowed}
use Rattle.orc_fifo_rule.proofs.laws.a_swing_may_come.Goals as goal

pub returns : goal.returns
returns c = swing_allowed
