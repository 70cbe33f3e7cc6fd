use Rattle.std.proofs.Common.{◌≡◌, length}
use Rattle.orc_team.specs.Seats.{AreRooms}
use Rattle.orc_team.proofs.rooms.reserve_rooms.Given as goal

abbrev pub invariant-loop-index : goal.invariant-loop-index
invariant-loop-index g l = record {
  rooms : AreRooms g.F.Fn l.room 1 l.rooms.items;
  many : length l.rooms.items ≡ l.index;
}
