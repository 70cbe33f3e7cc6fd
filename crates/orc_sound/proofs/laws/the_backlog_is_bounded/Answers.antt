use Rattle.orc_sound.proofs.ForRuns.{bound_kept}
use Rattle.orc_sound.proofs.laws.the_backlog_is_bounded.Goals as goal

pub returns : goal.returns
returns c = bound_kept
