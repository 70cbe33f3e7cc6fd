use Rattle.std.proofs.Common.{false, true}
use Rattle.orc_team.proofs.Teams.{for_both}
use Rattle.orc_team.proofs.rooms.RoomGather.gather.Goals as goal

pub append-requires : goal.append-requires
append-requires g c = c.requires false

pub append-requires-2 : goal.append-requires-2
append-requires-2 g c = c.requires true

pub returns-clause-items : goal.returns-clause-items
returns-clause-items g c = for_both _ c.append.ensures.items c.append-2.ensures.items

pub returns-clause-spare : goal.returns-clause-spare
returns-clause-spare g c = for_both _ c.append.ensures.spare c.append-2.ensures.spare
