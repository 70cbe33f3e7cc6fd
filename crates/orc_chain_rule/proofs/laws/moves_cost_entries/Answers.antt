use Rattle.std.proofs.Common.{arith}
use Rattle.orc_chain_rule.proofs.Stretches.{turns_bounded}
use Rattle.orc_chain_rule.proofs.laws.moves_cost_entries.Goals as goal

pub returns : goal.returns
returns c = record {
  turns = turns_bounded;
  half = λ n seen more ids turns holds all left some. omega (arith, turns_bounded n seen more ids turns holds all left some);
}
