use Rattle.orc_chain_rule.proofs.Coming.{added_allowed}
use Rattle.orc_chain_rule.proofs.laws.an_added_may_come.Goals as goal

pub returns : goal.returns
returns c =
    λ n agent place from over to key second fresh seen holds out there. added_allowed n agent place from over to key second fresh seen holds out.below
    out.unmarked out.run out.above there
