use Rattle.orc_sound.proofs.ForRuns.{run_sound}
use Rattle.orc_sound.proofs.laws.every_run_is_sound.Goals as goal

pub returns : goal.returns
returns c = run_sound
