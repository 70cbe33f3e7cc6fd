use Rattle.std.proofs.Common.{◌-◌}
use Rattle.orc_machine_rest.proofs.handovers.+take_in_from.Given as goal

abbrev pub decreases-take_in_from : goal.decreases-take_in_from
decreases-take_in_from g l = 8 - l.k
