use Rattle.std.proofs.Common.{arith}
use Rattle.orc_fifo_rule.proofs.MoveKinds.{moves_counted, off_counted}
use Rattle.orc_fifo_rule.proofs.Stretches.{swings_bounded}
use Rattle.orc_fifo_rule.proofs.laws.moves_cost_entries.Goals as goal

pub returns : goal.returns
returns c = record {
  kinds = moves_counted;
  off_the_head = off_counted;
  half = λ n seen more turns holds begun all some. omega
      (arith, some, moves_counted n seen more holds begun all, swings_bounded n seen more holds begun all);
}
