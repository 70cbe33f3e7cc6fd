-- The domain has the roots that were asked for.
use Rattle.std.proofs.Common.{ap}
use Rattle.orc_words.specs.Bounds.{Bounds}
use Rattle.stress.proofs.driven.run_queue.Goals as goal

pub rooted_queue-queue-requires : goal.rooted_queue-queue-requires
rooted_queue-queue-requires g c = ap (λ (b : Bounds). b.roots) c.in_ok-made.ensures.bounds
