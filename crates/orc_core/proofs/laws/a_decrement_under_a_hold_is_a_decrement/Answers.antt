use Rattle.orc_core.proofs.Saving.{held_allowed}
use Rattle.orc_core.proofs.laws.a_decrement_under_a_hold_is_a_decrement.Goals as goal

pub returns-clause-allowed : goal.returns-clause-allowed
returns-clause-allowed c = held_allowed
