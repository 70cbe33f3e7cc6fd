use Rattle.orc_fifo_rule.proofs.Coming.{put_allowed}
use Rattle.orc_fifo_rule.proofs.laws.a_put_may_come.Goals as goal

pub returns : goal.returns
returns c = put_allowed
