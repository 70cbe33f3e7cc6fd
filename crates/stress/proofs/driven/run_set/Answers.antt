-- The set has a root for each bucket, and one at least.
use Rattle.std.proofs.Common.{arith}
use Rattle.stress.proofs.driven.run_set.Goals as goal

pub new-set-requires : goal.new-set-requires
new-set-requires g c = omega (arith, c.in_ok-made.made.all_roots.0, c.in_ok-made.made.all_roots.1)
