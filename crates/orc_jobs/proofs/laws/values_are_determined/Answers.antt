use Rattle.orc_jobs.proofs.JobValues.{IsJobValue-unique}
use Rattle.orc_jobs.proofs.NumberLists.{SpellsNumbers-unique}
use Rattle.orc_jobs.proofs.laws.values_are_determined.Goals as goal

pub returns-clause-numbers : goal.returns-clause-numbers
returns-clause-numbers c = SpellsNumbers-unique

pub returns-clause-value : goal.returns-clause-value
returns-clause-value c = IsJobValue-unique
