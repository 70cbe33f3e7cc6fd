use Rattle.orc_pairs_rule.proofs.Coming.{stage_fresh, unstage_own}
use Rattle.orc_pairs_rule.proofs.laws.a_stage_may_come.Goals as goal

pub returns-clause-stage : goal.returns-clause-stage
returns-clause-stage c = λ n agent seen root id value node holds own there mine unnamed unlinked part.
    stage_fresh n agent seen holds root id value node own there mine unnamed unlinked part

pub returns-clause-unstage : goal.returns-clause-unstage
returns-clause-unstage c = λ n agent seen root from holds own. unstage_own n agent seen holds root from own
