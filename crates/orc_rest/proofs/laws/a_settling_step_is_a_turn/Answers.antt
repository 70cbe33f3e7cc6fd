use Rattle.orc_rest.proofs.Turns.{made_turn}
use Rattle.orc_rest.proofs.laws.a_settling_step_is_a_turn.Goals as goal

pub returns : goal.returns
returns c = made_turn
