use Rattle.std.proofs.Common.{arith}
use Rattle.orc_sound.proofs.Passed.{passed_all, passed_more, passed_none}
use Rattle.orc_sound.proofs.soundness.rows_fit.Goals as goal

pub loop-row-init : goal.loop-row-init
loop-row-init c = grind (arith, passed_none)

pub loop-row-preserved : goal.loop-row-preserved
loop-row-preserved c = grind (arith, passed_more)

pub returns : goal.returns
returns c = grind (arith, passed_all)
