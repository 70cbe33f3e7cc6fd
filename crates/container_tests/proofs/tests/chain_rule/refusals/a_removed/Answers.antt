use Rattle.std.proofs.Common.{refl}
use Rattle.container_tests.proofs.tests.chain_rule.refusals.a_removed.Goals as goal

pub returns-clause-allowed : goal.returns-clause-allowed
returns-clause-allowed c = (refl, record { has_key = record { node = _; there = refl; linked = refl; rank_is = refl }; plain = refl; to_is = refl })
