use Rattle.orc_chain_rule.proofs.Coming.{asked_absent_allowed, removed_absent_allowed}
use Rattle.orc_chain_rule.proofs.laws.absent_answers_may_come.Goals as goal

pub returns-clause-removed : goal.returns-clause-removed
returns-clause-removed c =
    λ n agent place from over to key seen holds out. removed_absent_allowed n agent place from over to key seen holds out.below out.unmarked out.run out.above

pub returns-clause-asked : goal.returns-clause-asked
returns-clause-asked c =
    λ n agent place from over to key seen holds out. asked_absent_allowed n agent place from over to key seen holds out.below out.unmarked out.run out.above
