use Rattle.orc_heap.proofs.Roots.{root_linked}
use Rattle.orc_heap.proofs.laws.roots_lead_to_linked_nodes.Goals as goal

pub returns : goal.returns
returns g c n es root id link to at = root_linked n es root id link to at
