use Rattle.std.proofs.Common.{length}
use Rattle.orc_any_domain.proofs.learning.+learn_round.Given as goal

abbrev pub decreases-learn_round : goal.decreases-learn_round
decreases-learn_round g l = length l.others.now
