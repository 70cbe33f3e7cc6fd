-- The lines of a job file are good.
use Rattle.container_tests.proofs.tests.over_domains.watched.lines_of.Goals as goal

pub read_jobs-requires : goal.read_jobs-requires
read_jobs-requires c = c.requires

pub returns-in-Ok : goal.returns-in-Ok
returns-in-Ok c = c.in-Ok.ensures.good
