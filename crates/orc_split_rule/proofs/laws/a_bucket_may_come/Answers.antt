use Rattle.orc_split_rule.proofs.Coming.{bucket_allowed}
use Rattle.orc_split_rule.proofs.laws.a_bucket_may_come.Goals as goal

pub returns : goal.returns
returns c = bucket_allowed
