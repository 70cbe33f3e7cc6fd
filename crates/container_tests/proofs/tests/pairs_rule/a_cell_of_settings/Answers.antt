use Rattle.std.proofs.Common.{refl}
use Rattle.container_tests.proofs.tests.pairs_rule.a_cell_of_settings.Goals as goal

pub returns : goal.returns
returns c = ((refl, (refl, (refl, (refl, (refl, (refl, tt)))))), refl)
