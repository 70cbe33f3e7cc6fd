use Rattle.orc_team.proofs.Seats.{back_more, desks_more, no_smaller, one_desk_more, room_after, room_left}
use Rattle.orc_team.proofs.seating.+hand_back.Goals as goal

pub gather-requires : goal.gather-requires
gather-requires g t c = λ kind.
    room_left (λ w. g.T.Gather.items kind w.replies) c.pop.new.self.items c.args.workers.items c.in-Some.worker (g.T.Gather.spare kind c.args.replies.now)
    (g.T.Gather.spare kind c.hand_back.new.replies) c.in-Some.ensures.items (c.requires.replies kind) (c.hand_back.ensures.room kind)

pub returns : goal.returns
returns g t c = record {
  desks = desks_more (λ w. w.desk) c.pop.new.self.items c.args.workers.items c.in-Some.worker c.args.desks.now.items c.hand_back.new.desks.items
      c.push.new.self.items c.in-Some.ensures.items c.hand_back.ensures.desks c.in-Ok.ensures.items;
  replies = λ kind. back_more (λ w. g.T.Gather.items kind w.replies) c.pop.new.self.items c.args.workers.items c.in-Some.worker
      (g.T.Gather.items kind c.args.replies.now) (g.T.Gather.items kind c.hand_back.new.replies) (g.T.Gather.items kind c.gather.new.self)
      c.in-Some.ensures.items (c.hand_back.ensures.replies kind) (c.gather.ensures.items kind);
  len = one_desk_more c.push.new.self.len c.hand_back.new.desks.len c.args.desks.now.len c.pop.new.self.len c.args.workers.len c.in-Ok.ensures.len
      c.hand_back.ensures.len c.in-Some.ensures.cases;
  capacity = no_smaller c.args.desks.now.cap c.hand_back.new.desks.cap c.push.new.self.cap c.hand_back.ensures.capacity c.in-Ok.ensures.capacity;
  room = λ kind. room_after (λ w. g.T.Gather.items kind w.replies) c.pop.new.self.items c.args.workers.items c.in-Some.worker
      (g.T.Gather.spare kind c.args.replies.now) (g.T.Gather.spare kind c.hand_back.new.replies) (g.T.Gather.spare kind c.gather.new.self)
      c.in-Some.ensures.items (c.hand_back.ensures.room kind) (c.gather.ensures.spare kind);
}
