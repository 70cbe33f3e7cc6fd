use Rattle.std.proofs.Common.{rules, ◌≡◌, ◌+◌, length}
use Rattle.orc_team.specs.Seats.{EachNumbered}
use Rattle.orc_team.proofs.Numbered.{EachFrom-to_last}
use Rattle.orc_team.proofs.Seats.{one_less_each, seated_many, seated_more}
use Rattle.orc_team.proofs.seating.+seat.Goals as goal

pub agent-agent-requires : goal.agent-agent-requires
agent-agent-requires g t c = (
  1 + length c.pop.new.self.items,
  (EachFrom-to_last (g.C.Workplace.site c.args.here.now).usable 1 c.pop.new.self.items c.args.desks.now.items c.in-Some.desk c.in-Some.ensures.items
      c.requires.agents).1,
)

pub seat-waiting-requires : goal.seat-waiting-requires
seat-waiting-requires g t c κs within =
    let before : EachNumbered (g.C.Workplace.site c.args.here.now).usable 1 c.pop.new.self.items =
    (EachFrom-to_last (g.C.Workplace.site c.args.here.now).usable 1 c.pop.new.self.items c.args.desks.now.items c.in-Some.desk c.in-Some.ensures.items
    c.requires.agents).0 in
    search rules

pub unreachable-requires-in_default-push : goal.unreachable-requires-in_default-push
unreachable-requires-in_default-push g t c =
    let same : length c.pop-2.new.self.items ≡ length c.pop.new.self.items = one_less_each c.args.rooms.len c.args.desks.now.len
    c.pop-2.new.self.len c.pop.new.self.len _ _ c.in-Some-pop.ensures.cases c.in-Some.ensures.cases
    c.requires.rooms c.pop-2.new.self.ok.0 c.pop.new.self.ok.0 in
    let few : length c.seat-waiting.result.items ≡ length c.pop.new.self.items = seated_many 1 c.pop.new.self.items
    c.pop-2.new.self.items c.seat-waiting.result.items c.seat-waiting.ensures.seated same in
    search rules

pub returns-clause-seated : goal.returns-clause-seated
returns-clause-seated g t c =
    let same : length c.pop-2.new.self.items ≡ length c.pop.new.self.items = one_less_each c.args.rooms.len c.args.desks.now.len
    c.pop-2.new.self.len c.pop.new.self.len _ _ c.in-Some-pop.ensures.cases c.in-Some.ensures.cases
    c.requires.rooms c.pop-2.new.self.ok.0 c.pop.new.self.ok.0 in
    let last = (EachFrom-to_last (g.C.Workplace.site c.args.here.now).usable 1 c.pop.new.self.items c.args.desks.now.items c.in-Some.desk c.in-Some.ensures.items
    c.requires.agents).1 in
    seated_more 1 c.pop.new.self.items c.args.desks.now.items c.pop-2.new.self.items c.args.rooms.items c.in-Some.desk c.in-Some-pop.replies
    c.seat-waiting.result.items c.push.new.self.items c.agent-agent.result c.in-Some.ensures.items c.in-Some-pop.ensures.items same
    c.seat-waiting.ensures.seated (c.agent-agent.ensures (1 + length c.pop.new.self.items) last) c.in-Ok.ensures.items
