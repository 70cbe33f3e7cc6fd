use Rattle.orc_team.proofs.gathering.ReplyListGather.gather.Goals as goal

pub append-requires : goal.append-requires
append-requires g c = c.requires tt
