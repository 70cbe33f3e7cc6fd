use Rattle.orc_split_rule.proofs.Coming.{removed_allowed}
use Rattle.orc_split_rule.proofs.laws.a_removed_may_come.Goals as goal

pub returns : goal.returns
returns c = removed_allowed
