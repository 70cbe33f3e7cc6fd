use Rattle.std.proofs.Common.{length}
use Rattle.orc_pipeline.proofs.at_queues.+learn_passes.Given as goal

abbrev pub decreases-learn_passes : goal.decreases-learn_passes
decreases-learn_passes g l = length l.queues.now
