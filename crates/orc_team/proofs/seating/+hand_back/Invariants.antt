use Rattle.std.proofs.Common.{vec_len}
use Rattle.orc_team.proofs.seating.+hand_back.Given as goal

abbrev pub decreases-hand_back : goal.decreases-hand_back
decreases-hand_back g l = vec_len l.workers
