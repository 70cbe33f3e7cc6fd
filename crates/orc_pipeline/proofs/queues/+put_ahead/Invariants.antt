use Rattle.std.proofs.Common.{length}
use Rattle.orc_pipeline.proofs.queues.+put_ahead.Given as goal

abbrev pub decreases-put_ahead : goal.decreases-put_ahead
decreases-put_ahead g l = length l.desks.now
