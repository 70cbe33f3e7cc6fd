use Rattle.orc_job_files.proofs.CauseOrLine.{cause-or-line}
use Rattle.orc_job_files.proofs.GrammarLaws.{laws}
use Rattle.orc_job_files.proofs.laws.records_are_determined.Goals as goal

pub returns-clause-line : goal.returns-clause-line
returns-clause-line c = laws.same_line

pub returns-clause-cause : goal.returns-clause-cause
returns-clause-cause c = laws.one_cause

pub returns-clause-not_both : goal.returns-clause-not_both
returns-clause-not_both c = laws.no_cause

pub returns-clause-not_neither : goal.returns-clause-not_neither
returns-clause-not_neither c = cause-or-line
