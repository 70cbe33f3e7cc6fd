use Rattle.std.proofs.Common.{ap, arith, ◌≡◌}
use Rattle.orc_pairs_rule.specs.CellHistory.{Parts}
use Rattle.container_tests.proofs.tests.pairs_rule.a_read_of_two_versions.Goals as goal

pub returns : goal.returns
returns c = λ legal. let bad : 3 ≡ 1 = ap (λ (p : Parts). p.left) legal.1.1.0 in omega (arith, bad)
