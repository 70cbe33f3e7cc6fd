use Rattle.orc_split_rule.proofs.Coming.{added_allowed}
use Rattle.orc_split_rule.proofs.laws.an_added_may_come.Goals as goal

pub returns : goal.returns
returns c = added_allowed
