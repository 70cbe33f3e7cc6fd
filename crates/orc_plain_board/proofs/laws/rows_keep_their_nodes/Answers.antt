use Rattle.orc_plain_board.proofs.Known.{ids_stay}
use Rattle.orc_plain_board.proofs.laws.rows_keep_their_nodes.Goals as goal

pub returns : goal.returns
returns c = ids_stay
