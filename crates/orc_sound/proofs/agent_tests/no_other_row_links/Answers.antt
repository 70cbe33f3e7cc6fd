use Rattle.std.proofs.Common.{arith}
use Rattle.orc_sound.proofs.Passed.{passed_all, passed_more, passed_none}
use Rattle.orc_sound.proofs.agent_tests.no_other_row_links.Goals as goal

pub loop-from-init : goal.loop-from-init
loop-from-init c = grind (arith, passed_none)

pub loop-from-preserved : goal.loop-from-preserved
loop-from-preserved c = grind (arith, passed_more)

pub returns : goal.returns
returns c = grind (arith, passed_all)
