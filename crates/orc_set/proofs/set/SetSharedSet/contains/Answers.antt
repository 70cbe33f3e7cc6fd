-- The cause as a licence. Turns ran out, so which rows lack or are worn is no part of it.
use Rattle.orc_list.proofs.Licences.{again_licence}
use Rattle.orc_set.proofs.set.SetSharedSet.contains.Goals as goal

pub returns-clause-licence : goal.returns-clause-licence
returns-clause-licence g c =
    let e = c.contains.ensures in
    again_licence _ _ _ _ _ _ _ e.later (λ from to. ⊥) (λ spent from to. ⊥) c.contains.result e.again

pub returns-clause-asked : goal.returns-clause-asked
returns-clause-asked g c = c.contains.ensures.asked
