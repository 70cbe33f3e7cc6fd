use Rattle.orc_split_rule.proofs.Coming.{grow_allowed}
use Rattle.orc_split_rule.proofs.laws.a_grow_may_come.Goals as goal

pub returns : goal.returns
returns c = grow_allowed
