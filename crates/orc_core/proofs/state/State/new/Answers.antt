use Rattle.std.proofs.Common.{ap, ◌∙◌, length}
use Rattle.std.proofs.Math.ListN.{length-replicate}
use Rattle.orc_core.specs.Machine.{nobody}
use Rattle.orc_core.proofs.Within.{room_of_nobody}
use Rattle.orc_core.proofs.state.State.new.Goals as goal

pub invariant_of-result : goal.invariant_of-result
invariant_of-result c = (
  c.in_ok-words.ensures.long,
  ap length c.in_ok-agents.ensures ∙ length-replicate c.args.shape.now.agents (nobody c.args.shape.now.rows),
  rw c.in_ok-agents.ensures (room_of_nobody c.args.shape.now.agents c.args.shape.now.rows),
)
