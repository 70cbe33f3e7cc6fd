use Rattle.orc_split_rule.proofs.Coming.{dummy_on_chain}
use Rattle.orc_split_rule.proofs.laws.dummies_are_never_marked.Goals as goal

pub returns-clause-unmarked : goal.returns-clause-unmarked
returns-clause-unmarked c = λ n es id bucket link holds dummy at. holds.buckets.plain_dummies id bucket link dummy at

pub returns-clause-on_chain : goal.returns-clause-on_chain
returns-clause-on_chain c = dummy_on_chain

pub returns-clause-anchored : goal.returns-clause-anchored
returns-clause-anchored c = λ n es id bucket holds low high leads. holds.buckets.anchors bucket id low high leads
