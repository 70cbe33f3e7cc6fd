use Rattle.orc_heap.proofs.Fresh.{node_later}
use Rattle.orc_fifo_rule.specs.QueueDiscipline.{FifoHolds, FifoMay}
use Rattle.orc_fifo_rule.specs.Laws.Kept.{fifo_keeps, fifo_moves_linked}
use Rattle.orc_fifo_rule.proofs.Later.{job_later, link_later, named_later, position_later}
use Rattle.orc_fifo_rule.proofs.Leaving.{left_later}
use Rattle.orc_fifo_rule.proofs.laws.facts_of_nodes_stay.Goals as goal

pub returns-clause-named : goal.returns-clause-named
returns-clause-named c = λ n seen more root id all w. named_later n seen more root id w all

pub returns-clause-left : goal.returns-clause-left
returns-clause-left c = λ n seen more id holds begun all left. left_later n seen more id holds begun left all

pub returns-clause-link : goal.returns-clause-link
returns-clause-link c = λ n seen more id next all link. link_later n seen more id next link all

pub returns-clause-position : goal.returns-clause-position
returns-clause-position c = λ n seen more id all linked. position_later n seen more id linked all

pub returns-clause-job : goal.returns-clause-job
returns-clause-job c = λ n seen more id job at all has. job_later n seen more id job at has all

pub returns-clause-fresh : goal.returns-clause-fresh
returns-clause-fresh c = λ n seen more agent id node holds later there giver unnamed unlinked.
    node_later n (FifoHolds n) (FifoMay n) (fifo_keeps n) (λ es e holds may. may.fits) (fifo_moves_linked n) agent id node seen more holds there giver unnamed unlinked later
