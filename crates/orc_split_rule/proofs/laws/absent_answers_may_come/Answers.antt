use Rattle.orc_split_rule.proofs.Coming.{asked_absent_allowed, removed_absent_allowed}
use Rattle.orc_split_rule.proofs.laws.absent_answers_may_come.Goals as goal

pub returns : goal.returns
returns c = record { removed = removed_absent_allowed; asked = asked_absent_allowed }
