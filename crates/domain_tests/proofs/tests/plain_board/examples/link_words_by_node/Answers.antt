use Rattle.std.proofs.Common.{refl}
use Rattle.domain_tests.proofs.tests.plain_board.examples.link_words_by_node.Goals as goal

pub returns-clause-marked : goal.returns-clause-marked
returns-clause-marked c = (7, refl, refl)

pub returns-clause-unmarked : goal.returns-clause-unmarked
returns-clause-unmarked c = (7, refl, refl)
