use Rattle.std.proofs.Common.{◌+◌, ◌≤◌, length}
use Rattle.orc_words.specs.Bounds.{bounds_of}
use Rattle.orc_trace.proofs.Plays.{Continues}
use Rattle.orc_trace.proofs.playing.play_lines.Given as goal

abbrev pub decreases-loop-rest : goal.decreases-loop-rest
decreases-loop-rest l = length l.rest

abbrev pub invariant-loop-rest : goal.invariant-loop-rest
invariant-loop-rest l = record {
  short : l.steps + length l.rest ≤ length l.fn.lines;
  so : Continues (bounds_of l.shape) l.fn.state l.fn.lines l.steps l.state l.rest;
}
