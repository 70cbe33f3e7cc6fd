use Rattle.std.proofs.Common.{◌+◌, ◌≤◌, length}
use Rattle.orc_words.specs.Bounds.{bounds_of}
use Rattle.orc_trace.specs.Reaching.{HasMarks}
use Rattle.orc_trace.proofs.Watching.{SoFar}
use Rattle.orc_trace.proofs.auditing.watch_steps.Given as goal

abbrev pub decreases-loop-rest : goal.decreases-loop-rest
decreases-loop-rest l = length l.rest

abbrev pub invariant-loop-rest : goal.invariant-loop-rest
invariant-loop-rest l = record {
  short : l.seen.steps + length l.rest ≤ length l.fn.lines;
  room : HasMarks l.reach (bounds_of l.shape).rows;
  so : SoFar (bounds_of l.shape) l.fn.lines l.rest l.state l.seen;
}
