use Rattle.std.proofs.Common.{arith}
use Rattle.orc_sound.proofs.Passed.{passed_all, passed_more, passed_none}
use Rattle.orc_sound.proofs.row_tests.links_fit.Goals as goal

pub loop-number-init : goal.loop-number-init
loop-number-init c = grind (arith, passed_none)

pub loop-number-preserved : goal.loop-number-preserved
loop-number-preserved c = grind (arith, passed_more)

pub returns : goal.returns
returns c = grind (arith, passed_all)
