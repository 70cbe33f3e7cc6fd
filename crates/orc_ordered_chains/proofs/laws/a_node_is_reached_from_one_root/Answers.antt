use Rattle.orc_ordered_chains.proofs.Paths.{chain_root}
use Rattle.orc_ordered_chains.proofs.laws.a_node_is_reached_from_one_root.Goals as goal

pub returns : goal.returns
returns c = λ o h root id rank chains begins on own. chain_root o h chains root id rank begins on own
