use Rattle.std.proofs.Common.{◌≡◌, ◌≤◌, take}
use Rattle.orc_jobs.specs.Line.{jobs_in}
use Rattle.orc_workers.proofs.work.count_jobs.Given as goal

abbrev pub invariant-loop-index : goal.invariant-loop-index
invariant-loop-index l = record { counted : l.jobs ≡ jobs_in (take l.index l.fn.lines); few : l.jobs ≤ l.index }
