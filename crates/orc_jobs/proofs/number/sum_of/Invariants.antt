use Rattle.std.proofs.Common.{◌≡◌, ◌≤◌, ◌*◌, List, ℕ, length, sum, take}
use Rattle.orc_jobs.specs.Numbers.{SpellsNumbers}
use Rattle.orc_jobs.proofs.number.sum_of.Given as goal

abbrev pub invariant-loop-piece : goal.invariant-loop-piece
invariant-loop-piece l = record {
  sum : (numbers : List ℕ) → SpellsNumbers numbers l.text → l.total ≡ sum (take (length l.yielded) numbers);
  room : l.total ≤ 4294967295 * length l.yielded;
}
