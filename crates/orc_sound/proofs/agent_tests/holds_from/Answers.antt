use Rattle.std.proofs.Common.{arith}
use Rattle.orc_sound.proofs.Found.{found_all, found_more, found_none}
use Rattle.orc_sound.proofs.agent_tests.holds_from.Goals as goal

pub loop-slot-init : goal.loop-slot-init
loop-slot-init c = grind (arith, found_none)

pub loop-slot-preserved : goal.loop-slot-preserved
loop-slot-preserved c = grind (arith, found_more)

pub returns : goal.returns
returns c = grind (arith, found_all)
