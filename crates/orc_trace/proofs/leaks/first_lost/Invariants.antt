use Rattle.std.proofs.Common.{◌<◌, ◌≡◌, ℕ, false}
use Rattle.orc_trace.specs.Watched.{is_lost}
use Rattle.orc_trace.proofs.leaks.first_lost.Given as goal

abbrev pub invariant-loop-row : goal.invariant-loop-row
invariant-loop-row l = (r : ℕ) → r < l.row → is_lost l.state l.reach.marks.items r ≡ false
