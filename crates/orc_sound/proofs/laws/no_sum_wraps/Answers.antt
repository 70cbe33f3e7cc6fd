use Rattle.orc_sound.proofs.ForRuns.{sums_within}
use Rattle.orc_sound.proofs.laws.no_sum_wraps.Goals as goal

pub returns : goal.returns
returns c = sums_within
