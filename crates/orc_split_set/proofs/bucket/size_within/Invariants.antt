use Rattle.std.proofs.Common.{ℕ, ◌≤◌}
use Rattle.orc_split_rule.specs.SplitDiscipline.{IsSize}
use Rattle.orc_split_set.proofs.bucket.size_within.Given as goal

-- a number of buckets still
abbrev pub invariant-loop-size : goal.invariant-loop-size
invariant-loop-size l = record { size : (all : ℕ) → IsSize all l.fn.most → IsSize all l.size; within : l.size ≤ l.fn.most }

abbrev pub decreases-loop-size : goal.decreases-loop-size
decreases-loop-size l = l.size
