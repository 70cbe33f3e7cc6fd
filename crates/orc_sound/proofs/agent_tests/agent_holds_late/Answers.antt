use Rattle.std.proofs.Common.{arith}
use Rattle.orc_sound.proofs.Passed.{passed_all, passed_more, passed_none}
use Rattle.orc_sound.proofs.agent_tests.agent_holds_late.Goals as goal

pub loop-slot-init : goal.loop-slot-init
loop-slot-init c = grind (arith, passed_none)

pub loop-slot-preserved : goal.loop-slot-preserved
loop-slot-preserved c = grind (arith, passed_more)

pub returns : goal.returns
returns c = grind (arith, passed_all)
