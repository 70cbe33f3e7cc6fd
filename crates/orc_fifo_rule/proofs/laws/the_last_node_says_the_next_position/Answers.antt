use Rattle.orc_fifo_rule.proofs.Later.{next_position}
use Rattle.orc_fifo_rule.proofs.laws.the_last_node_says_the_next_position.Goals as goal

pub returns : goal.returns
returns c = next_position
