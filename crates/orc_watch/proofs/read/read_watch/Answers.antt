use Rattle.orc_watch.proofs.read.read_watch.Goals as goal

pub returns-clause-only : goal.returns-clause-only
returns-clause-only c = c.read_records.ensures.only

pub returns-clause-bad : goal.returns-clause-bad
returns-clause-bad c = c.read_records.ensures.bad

pub returns-clause-many : goal.returns-clause-many
returns-clause-many c = c.read_records.ensures.many
