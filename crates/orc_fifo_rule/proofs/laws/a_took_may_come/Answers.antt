use Rattle.orc_fifo_rule.proofs.Coming.{took_allowed}
use Rattle.orc_fifo_rule.proofs.Leaving.{is_left}
use Rattle.orc_fifo_rule.proofs.laws.a_took_may_come.Goals as goal

pub returns-clause-took : goal.returns-clause-took
returns-clause-took c = took_allowed

pub returns-clause-left : goal.returns-clause-left
returns-clause-left c = is_left
