use Rattle.std.proofs.Common.{refl}
use Rattle.orc_heap.specs.Journals.{run_heap}
use Rattle.orc_split_rule.proofs.Beginning.{begins_below, begins_below_dummy, leads_to_key, on_from_dummy}
use Rattle.orc_split_rule.specs.SplitDiscipline.{greatest}
use Rattle.orc_split_rule.proofs.laws.searches_may_begin_at_dummies.Goals as goal

pub returns-clause-at_root : goal.returns-clause-at_root
returns-clause-at_root c = λ n es rank. refl

pub returns-clause-for_a_key : goal.returns-clause-for_a_key
returns-clause-for_a_key c = λ n es id key size back old is a d. begins_below (run_heap n es) id key (greatest n) size back old is a d

pub returns-clause-for_a_dummy : goal.returns-clause-for_a_dummy
returns-clause-for_a_dummy c = λ n es id bucket back old a d. begins_below_dummy (run_heap n es) id bucket back old a d

pub returns-clause-leads_to_the_key : goal.returns-clause-leads_to_the_key
returns-clause-leads_to_the_key c = λ n es id key size back old holds is a d y. leads_to_key n es id key (greatest n) size back old holds is a d y

pub returns-clause-on_chain : goal.returns-clause-on_chain
returns-clause-on_chain c = on_from_dummy
