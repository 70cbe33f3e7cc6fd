use Rattle.orc_fifo_rule.proofs.Coming.{empty_allowed}
use Rattle.orc_fifo_rule.proofs.laws.an_empty_may_come.Goals as goal

pub returns : goal.returns
returns c = empty_allowed
