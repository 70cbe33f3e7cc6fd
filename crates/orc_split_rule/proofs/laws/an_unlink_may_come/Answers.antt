use Rattle.orc_split_rule.proofs.Coming.{unlink_allowed}
use Rattle.orc_split_rule.proofs.laws.an_unlink_may_come.Goals as goal

pub returns : goal.returns
returns c = unlink_allowed
