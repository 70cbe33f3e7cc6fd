use Rattle.std.proofs.Common.{arith}
use Rattle.orc_workers.proofs.Seated.{step_known}
use Rattle.orc_workers.proofs.work.count_jobs.Goals as goal

pub loop-index-preserved : goal.loop-index-preserved
loop-index-preserved c = record {
  counted = step_known c.args.lines.now c.loop-index.index _ _ c.get.result.now c.get.ensures c.loop-index.invariant.counted c.count_job-jobs.ensures.is;
  few = omega (arith, c.loop-index.invariant.few, c.count_job-jobs.ensures.few);
}
