use Rattle.orc_core.proofs.Steps.{run-append, IsLawful-append}
use Rattle.orc_core.proofs.laws.runs_go_on.Goals as goal

pub returns-clause-states : goal.returns-clause-states
returns-clause-states c = run-append

pub returns-clause-lawful : goal.returns-clause-lawful
returns-clause-lawful c = IsLawful-append
