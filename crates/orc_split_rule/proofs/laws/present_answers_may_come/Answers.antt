use Rattle.orc_split_rule.proofs.Coming.{added_present_allowed, asked_present_allowed}
use Rattle.orc_split_rule.proofs.laws.present_answers_may_come.Goals as goal

pub returns : goal.returns
returns c = record { added = added_present_allowed; asked = asked_present_allowed }
