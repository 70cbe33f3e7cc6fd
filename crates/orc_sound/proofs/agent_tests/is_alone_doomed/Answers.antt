use Rattle.std.proofs.Common.{arith}
use Rattle.orc_sound.proofs.Passed.{passed_all, passed_more, passed_none}
use Rattle.orc_sound.proofs.agent_tests.is_alone_doomed.Goals as goal

pub loop-other-init : goal.loop-other-init
loop-other-init c = grind (arith, passed_none)

pub loop-other-preserved : goal.loop-other-preserved
loop-other-preserved c = grind (arith, passed_more)

pub returns : goal.returns
returns c = grind (arith, passed_all)
