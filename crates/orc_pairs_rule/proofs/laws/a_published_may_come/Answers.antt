use Rattle.orc_pairs_rule.proofs.Coming.{publish_own}
use Rattle.orc_pairs_rule.proofs.laws.a_published_may_come.Goals as goal

pub returns : goal.returns
returns c = λ n agent seen left right from id l r parts holds two own follows.
    publish_own n agent seen holds left right from id l r parts two own follows
