use Rattle.std.proofs.Common.{length}
use Rattle.orc_team.proofs.learning.+learn_once.Given as goal

abbrev pub decreases-learn_once : goal.decreases-learn_once
decreases-learn_once g l = length l.others.now
