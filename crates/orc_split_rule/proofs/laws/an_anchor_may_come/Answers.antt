use Rattle.orc_split_rule.proofs.Coming.{anchor_allowed}
use Rattle.orc_split_rule.proofs.laws.an_anchor_may_come.Goals as goal

pub returns : goal.returns
returns c = anchor_allowed
