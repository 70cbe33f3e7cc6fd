use Rattle.std.proofs.Common.{inl, refl}
use Rattle.container_tests.proofs.tests.fifo_rule.examples.while_the_tail_lags.Goals as goal

pub returns-clause-allowed : goal.returns-clause-allowed
returns-clause-allowed c = (
  record { root_is = refl; steps = record { id = 0; next = 1; from_is = refl; to_is = refl; successor = refl } },
  record { linked = record { node = _; there = refl; linked = refl }; either = inl refl },
)
