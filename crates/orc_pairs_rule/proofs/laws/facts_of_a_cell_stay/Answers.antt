use Rattle.orc_heap.proofs.Fresh.{node_later}
use Rattle.orc_pairs_rule.specs.PairsDiscipline.{PairsHolds, PairsMay}
use Rattle.orc_pairs_rule.specs.Laws.Kept.{pairs_keeps, pairs_moves_linked}
use Rattle.orc_pairs_rule.proofs.Later.{pair_later, part_later, staging_later}
use Rattle.orc_pairs_rule.proofs.laws.facts_of_a_cell_stay.Goals as goal

pub returns-clause-part : goal.returns-clause-part
returns-clause-part c = λ n seen more id value all has. part_later n seen more all id value has

pub returns-clause-pair : goal.returns-clause-pair
returns-clause-pair c = λ n seen more id left right parts all has. pair_later n seen more all id left right parts has

pub returns-clause-fresh : goal.returns-clause-fresh
returns-clause-fresh c = λ n seen more agent id node holds later there giver unnamed unlinked.
    node_later n (PairsHolds n) (PairsMay n) (pairs_keeps n) (λ es e holds may. may.fits) (pairs_moves_linked n) agent id node seen more holds there
    giver unnamed unlinked later

pub returns-clause-staging : goal.returns-clause-staging
returns-clause-staging c = λ n seen more agent root own later. staging_later n seen more agent root own later
