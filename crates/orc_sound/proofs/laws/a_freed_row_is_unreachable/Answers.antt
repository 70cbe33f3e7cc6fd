use Rattle.orc_sound.proofs.ForRuns.{freed_unreachable}
use Rattle.orc_sound.proofs.laws.a_freed_row_is_unreachable.Goals as goal

pub returns : goal.returns
returns c = freed_unreachable
