-- Each call leaves the pass usable.
use Rattle.uses.proofs.hold_in_queue.put_and_take.Goals.{then-job-ne0, else-job-ne0}
use Rattle.uses.proofs.hold_in_queue.put_and_take.Goals as goal

pub is_put-requires : goal.is_put-requires
is_put-requires g c = c.loop-job.invariant.0

pub is_taken-requires : goal.is_taken-requires
is_taken-requires g c = c.loop-job.invariant.1

pub loop-job-preserved : goal.loop-job-preserved
loop-job-preserved g c = (
  c.is_put.ensures,
  elim c.if-job-ne0.branch [
    | then-job-ne0 w ↦ rw w.two-is w.is_taken.ensures
    | else-job-ne0 w ↦ rw w.two-is c.loop-job.invariant.1
  ],
)
