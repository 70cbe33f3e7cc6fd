use Rattle.std.proofs.Common.{length}
use Rattle.orc_team.proofs.seating.+seat.Given as goal

abbrev pub decreases-seat : goal.decreases-seat
decreases-seat g l = length l.rooms.items
