use Rattle.orc_fifo_rule.proofs.Counting.{at_most_three, at_most_two}
use Rattle.orc_fifo_rule.proofs.laws.a_node_is_linked_at_most_three_times.Goals as goal

pub returns-clause-three : goal.returns-clause-three
returns-clause-three c = at_most_three

pub returns-clause-two : goal.returns-clause-two
returns-clause-two c = at_most_two
