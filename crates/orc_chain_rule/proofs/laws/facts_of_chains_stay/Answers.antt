use Rattle.orc_heap.proofs.Fresh.{node_later}
use Rattle.orc_chain_rule.specs.ChainDiscipline.{ChainHolds, ChainMay}
use Rattle.orc_chain_rule.specs.Laws.Kept.{chain_keeps, chain_moves_linked}
use Rattle.orc_chain_rule.proofs.Later.{above_later, follows_later, key_later, left_out_later, marked_later, run_later}
use Rattle.orc_chain_rule.proofs.laws.facts_of_chains_stay.Goals as goal

pub returns-clause-key : goal.returns-clause-key
returns-clause-key c = λ n seen more id key all k. key_later n seen more id key k all

pub returns-clause-marked : goal.returns-clause-marked
returns-clause-marked c = λ n seen more id link all l mark. marked_later n seen more id link l mark all

pub returns-clause-run : goal.returns-clause-run
returns-clause-run c = λ n seen more from over to all run. run_later n seen more from over to run all

pub returns-clause-below : goal.returns-clause-below
returns-clause-below c = λ n seen more roots place key all f. follows_later n seen more roots place key f all

pub returns-clause-above : goal.returns-clause-above
returns-clause-above c = λ n seen more to key all a. above_later n seen more to key a all

pub returns-clause-left_out : goal.returns-clause-left_out
returns-clause-left_out c = λ n seen more roots place from over to key all out. left_out_later n seen more roots place from over to key out all

pub returns-clause-fresh : goal.returns-clause-fresh
returns-clause-fresh c = λ n seen more agent id node holds later there giver unnamed unlinked.
    node_later n (ChainHolds n) (ChainMay n) (chain_keeps n) (λ es e holds may. may.fits)
    (chain_moves_linked n) agent id node seen more holds there giver unnamed unlinked later
