-- The causes as licences.
use Rattle.orc_list.proofs.Licences.{insert_licence}
use Rattle.orc_set.proofs.set.SetSharedSet.insert.Goals as goal

pub returns-clause-licence : goal.returns-clause-licence
returns-clause-licence g c = let e = c.insert.ensures in insert_licence _ _ _ _ _ _ _ e.later _ _ c.insert.result e.no_turns e.again e.no_node e.spent
