-- The greatest number of buckets is a power of two.
use Rattle.std.proofs.Common.{arith, refl}
use Rattle.container_tests.proofs.tests.split.calls.set_of_one.Goals as goal

pub new_split_set-requires : goal.new_split_set-requires
new_split_set-requires g c = (omega arith, 8, refl)
