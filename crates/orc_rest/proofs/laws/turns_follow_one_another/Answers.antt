use Rattle.orc_rest.proofs.Turns.{turn_join}
use Rattle.orc_rest.proofs.laws.turns_follow_one_another.Goals as goal

pub returns : goal.returns
returns c = turn_join
