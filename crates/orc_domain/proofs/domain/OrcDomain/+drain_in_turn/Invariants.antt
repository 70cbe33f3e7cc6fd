use Rattle.std.proofs.Common.{length}
use Rattle.orc_domain.proofs.domain.OrcDomain.+drain_in_turn.Given as goal

abbrev pub decreases-drain_in_turn : goal.decreases-drain_in_turn
decreases-drain_in_turn g l = length l.others.now
