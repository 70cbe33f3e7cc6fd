use Rattle.std.proofs.Common.{arith}
use Rattle.orc_sound.proofs.Found.{found_all, found_more, found_none}
use Rattle.orc_sound.proofs.row_tests.is_kept_out.Goals as goal

pub loop-agent-init : goal.loop-agent-init
loop-agent-init c = grind (arith, found_none)

pub loop-agent-preserved : goal.loop-agent-preserved
loop-agent-preserved c = grind (arith, found_more)

pub returns : goal.returns
returns c = grind (arith, found_all)
