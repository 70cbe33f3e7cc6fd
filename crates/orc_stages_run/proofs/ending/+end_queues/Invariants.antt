use Rattle.std.proofs.Common.{length}
use Rattle.orc_stages_run.proofs.ending.+end_queues.Given as goal

abbrev pub decreases-end_queues : goal.decreases-end_queues
decreases-end_queues g l = length l.queues.items
