use Rattle.orc_ordered_chains.proofs.Later.{above_later, chain_place_later, follows_later, marked_later, run_later}
use Rattle.orc_split_rule.proofs.Coming.{left_out_later}
use Rattle.orc_split_rule.proofs.Later.{fresh_later, may_fits, values_later}
use Rattle.orc_split_rule.specs.Laws.Kept.{marked_next}
use Rattle.orc_split_rule.specs.SplitDiscipline.{SplitMay}
use Rattle.orc_split_rule.specs.SplitOrder.{split_order}
use Rattle.orc_split_rule.proofs.laws.facts_of_the_chain_stay.Goals as goal

pub returns-clause-values : goal.returns-clause-values
returns-clause-values c = λ n seen more id first second all v. values_later n seen more id first second v all

pub returns-clause-place : goal.returns-clause-place
returns-clause-place c = λ n seen more place all on. chain_place_later split_order n (SplitMay n) (may_fits n) (marked_next n) seen more place on all

pub returns-clause-marked : goal.returns-clause-marked
returns-clause-marked c = λ n seen more id link all l mark. marked_later split_order n (SplitMay n) (may_fits n) (marked_next n) seen more id link l mark all

pub returns-clause-run : goal.returns-clause-run
returns-clause-run c = λ n seen more from over to all run. run_later split_order n (SplitMay n) (may_fits n) (marked_next n) seen more from over to run all

pub returns-clause-below : goal.returns-clause-below
returns-clause-below c = λ n seen more place rank all f. follows_later split_order n (SplitMay n) (may_fits n) (marked_next n) seen more place rank f all

pub returns-clause-above : goal.returns-clause-above
returns-clause-above c = λ n seen more to rank all a. above_later split_order n (SplitMay n) (may_fits n) (marked_next n) seen more to rank a all

pub returns-clause-left_out : goal.returns-clause-left_out
returns-clause-left_out c = λ n seen more place from over to rank all out. left_out_later n seen more place from over to rank out all

pub returns-clause-fresh : goal.returns-clause-fresh
returns-clause-fresh c = λ n seen more agent id node holds later there giver unnamed unlinked.
    fresh_later n agent id node seen more holds there giver unnamed unlinked later
