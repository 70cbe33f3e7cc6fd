-- What was left of the set that was chosen.
use Rattle.orc_run.proofs.Chosen.{as_lists, as_split}
use Rattle.orc_run.proofs.over.run_over.Goals as goal

pub returns-in_ok-queue-in-Lists : goal.returns-in_ok-queue-in-Lists
returns-in_ok-queue-in-Lists g c = as_lists _ _ _ _ _ _ _ _ _ _ _ _ _ _ _ _ _ _ _ c.in-Lists.is c.in_ok-queue-in-Lists.ensures

pub returns-in_ok-queue-in-Split : goal.returns-in_ok-queue-in-Split
returns-in_ok-queue-in-Split g c = as_split _ _ _ _ _ _ _ _ _ _ _ _ _ _ _ _ _ _ c.in-Split.is c.in_ok-queue-in-Split.ensures
