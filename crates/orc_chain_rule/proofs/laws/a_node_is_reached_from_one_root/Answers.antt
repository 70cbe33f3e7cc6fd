use Rattle.std.proofs.Common.{refl}
use Rattle.orc_heap.specs.Journals.{run_heap}
use Rattle.orc_ordered_chains.proofs.Paths.{chain_root}
use Rattle.orc_chain_rule.specs.ChainDiscipline.{chain_order}
use Rattle.orc_chain_rule.proofs.laws.a_node_is_reached_from_one_root.Goals as goal

pub returns : goal.returns
returns c = λ n es root id key holds on k. chain_root (chain_order n.roots) (run_heap n es) holds.chains.ordered root id key refl on k
