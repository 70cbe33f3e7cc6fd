use Rattle.std.proofs.Common.{◌<◌, ◌≡◌, ℕ, false, length}
use Rattle.orc_trace.specs.Reaching.{is_marked}
use Rattle.orc_trace.proofs.reaching.clear.Given as goal

abbrev pub invariant-loop-row : goal.invariant-loop-row
invariant-loop-row l = record { long : length l.marks ≡ length l.fn.marks; clear : (r : ℕ) → r < l.row → is_marked l.marks r ≡ false }
