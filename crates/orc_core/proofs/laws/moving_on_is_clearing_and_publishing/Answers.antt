use Rattle.orc_core.proofs.Saving.{move_allowed, moved_on}
use Rattle.orc_core.proofs.laws.moving_on_is_clearing_and_publishing.Goals as goal

pub returns-clause-allowed : goal.returns-clause-allowed
returns-clause-allowed c = move_allowed

pub returns-clause-step : goal.returns-clause-step
returns-clause-step c = moved_on
