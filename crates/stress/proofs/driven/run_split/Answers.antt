-- The set has a root for each bucket, and one for their number.
use Rattle.std.proofs.Common.{arith}
use Rattle.stress.proofs.driven.run_split.Goals as goal

pub new-set-requires : goal.new-set-requires
new-set-requires g c = omega (arith, c.in_ok-made.made.rooted.1)
