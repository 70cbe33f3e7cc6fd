use Rattle.std.proofs.Common.{arith}
use Rattle.orc_sound.proofs.Passed.{passed_all, passed_more, passed_none}
use Rattle.orc_sound.proofs.soundness.roots_fit.Goals as goal

pub loop-root-init : goal.loop-root-init
loop-root-init c = grind (arith, passed_none)

pub loop-root-preserved : goal.loop-root-preserved
loop-root-preserved c = grind (arith, passed_more)

pub returns : goal.returns
returns c = grind (arith, passed_all)
