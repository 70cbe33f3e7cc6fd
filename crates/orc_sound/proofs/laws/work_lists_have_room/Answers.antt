use Rattle.orc_sound.proofs.ForRuns.{list_within, room_left}
use Rattle.orc_sound.proofs.laws.work_lists_have_room.Goals as goal

pub returns-clause-length : goal.returns-clause-length
returns-clause-length c = list_within

pub returns-clause-room : goal.returns-clause-room
returns-clause-room c = room_left
