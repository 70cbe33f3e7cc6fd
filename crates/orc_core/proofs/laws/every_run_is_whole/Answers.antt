use Rattle.orc_core.proofs.Steps.{every_run_whole}
use Rattle.orc_core.proofs.laws.every_run_is_whole.Goals as goal

pub returns : goal.returns
returns c = every_run_whole
