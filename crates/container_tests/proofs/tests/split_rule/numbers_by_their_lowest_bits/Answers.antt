use Rattle.std.proofs.Common.{arith, refl}
use Rattle.std.specs.Int.{reverse_bits_onto}
use Rattle.orc_split_rule.specs.SplitOrder.{reversed}
use Rattle.container_tests.proofs.tests.split_rule.numbers_by_their_lowest_bits.Goals as goal

pub returns-clause-order : goal.returns-clause-order
unfolding reversed reverse_bits_onto
returns-clause-order c = refl

pub returns-clause-parents : goal.returns-clause-parents
returns-clause-parents c = (
  record { bit = 2; low = omega arith; high = omega arith; parent_is = refl },
  (
    2,
    record { bit = 2; low = omega arith; high = omega arith; parent_is = refl },
    (0, record { bit = 1; low = omega arith; high = omega arith; parent_is = refl }, refl),
  ),
  (λ p. omega (arith, p.parent_is, p.high)),
)
