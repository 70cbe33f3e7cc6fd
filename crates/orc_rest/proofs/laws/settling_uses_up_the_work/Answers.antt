use Rattle.orc_rest.proofs.ForRuns.{work_falls, work_within}
use Rattle.orc_rest.proofs.laws.settling_uses_up_the_work.Goals as goal

pub returns : goal.returns
returns c = record { falls = work_falls; bound = work_within }
