use Rattle.orc_machine_board.proofs.Holds.{node_stays}
use Rattle.orc_machine_board.proofs.laws.a_held_row_keeps_its_node.Goals as goal

pub returns : goal.returns
returns g c = node_stays
