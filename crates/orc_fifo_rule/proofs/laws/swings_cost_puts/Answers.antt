use Rattle.orc_fifo_rule.proofs.Stretches.{swings_bounded}
use Rattle.orc_fifo_rule.proofs.laws.swings_cost_puts.Goals as goal

pub returns : goal.returns
returns c = swings_bounded
