use Rattle.orc_ordered_chains.proofs.Paths.{live_behind, one_live}
use Rattle.orc_ordered_chains.proofs.laws.unmarked_nodes_stand_in_order.Goals as goal

pub returns-clause-one : goal.returns-clause-one
returns-clause-one c = λ o h id other rank chains a b. one_live o h chains id other rank a b

pub returns-clause-behind : goal.returns-clause-behind
returns-clause-behind c = λ o h id other low high chains a b less same. live_behind o h chains id other low high a b less same
