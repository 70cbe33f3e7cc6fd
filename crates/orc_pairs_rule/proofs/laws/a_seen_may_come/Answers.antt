use Rattle.orc_pairs_rule.proofs.Coming.{seen_null, seen_pair}
use Rattle.orc_pairs_rule.proofs.laws.a_seen_may_come.Goals as goal

pub returns-clause-null : goal.returns-clause-null
returns-clause-null c = λ n agent seen holds. seen_null n agent seen holds

pub returns-clause-pair : goal.returns-clause-pair
returns-clause-pair c = λ n agent seen id left right parts holds has. seen_pair n agent seen holds id left right parts has
