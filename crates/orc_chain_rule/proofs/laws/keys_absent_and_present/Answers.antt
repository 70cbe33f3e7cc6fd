use Rattle.orc_chain_rule.proofs.Coming.{key_absent, key_present}
use Rattle.orc_chain_rule.proofs.laws.keys_absent_and_present.Goals as goal

pub returns-clause-absent : goal.returns-clause-absent
returns-clause-absent c = λ n es place from over to key holds at out. key_absent n es place from over to key holds out.below at out.unmarked out.run out.above

pub returns-clause-present : goal.returns-clause-present
returns-clause-present c = key_present
