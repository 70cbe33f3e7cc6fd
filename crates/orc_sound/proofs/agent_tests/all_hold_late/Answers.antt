use Rattle.std.proofs.Common.{arith}
use Rattle.orc_sound.proofs.Passed.{passed_all, passed_more, passed_none}
use Rattle.orc_sound.proofs.agent_tests.all_hold_late.Goals as goal

pub loop-agent-init : goal.loop-agent-init
loop-agent-init c = grind (arith, passed_none)

pub loop-agent-preserved : goal.loop-agent-preserved
loop-agent-preserved c = grind (arith, passed_more)

pub returns : goal.returns
returns c = grind (arith, passed_all)
