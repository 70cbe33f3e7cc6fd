use Rattle.std.proofs.Common.{rules, arith, ◌++◌, ◌∷◌, [], subst}
use Rattle.std.specs.List.{AllByRecursion}
use Rattle.orc_team.specs.Team.{MayWork}
use Rattle.orc_team.proofs.Seats.{no_smaller, one_desk_more}
use Rattle.orc_team.proofs.Teams.{Team-more, Team-none}
use Rattle.orc_board.proofs.ListFacts.{AllByRecursion-left, AllByRecursion-right}
use Rattle.orc_team.proofs.team.+workers.Goals as goal

pub join-worker-requires-after_bounds : goal.join-worker-requires-after_bounds
join-worker-requires-after_bounds g t c κs within =
    let P = MayWork g.F.Fn c.args.work.now in
    let all : AllByRecursion P (c.pop.new.self.items ++ c.in-Some.worker ∷ []) =
    subst (λ xs. AllByRecursion P xs) c.in-Some.ensures.items c.requires.ready in
    let before : AllByRecursion P c.pop.new.self.items = AllByRecursion-left P _ _ all in
    let end : P c.in-Some.worker = (AllByRecursion-right P c.pop.new.self.items (c.in-Some.worker ∷ []) all).0 in
    search rules

pub returns-in_default : goal.returns-in_default
returns-in_default g t c = record {
  team = Team-none _ _ _ (omega (arith, c.args.waiting.ok.0, c.in_default.ensures.cases.0));
  room = omega arith;
  len = omega (arith, c.in_default.ensures.cases.0);
}

pub unreachable-requires : goal.unreachable-requires
unreachable-requires g t c =
    omega (arith, c.in_default-push.ensures.full, c.in-Some.ensures.cases, c.join-worker.ensures.second.1.0, c.join-worker.ensures.second.1.1, c.requires.room)

pub others-run_workers-requires-clause-ready : goal.others-run_workers-requires-clause-ready
others-run_workers-requires-clause-ready g t c κs within = c.requires.2

pub others-returns : goal.others-returns
others-returns g t c = record {
  team = c.run_workers.ensures.team;
  room = c.run_workers.ensures.room;
  len = c.run_workers.ensures.len;
}

pub returns : goal.returns
returns g t c = record {
  team =
      let more = Team-more _ _ _ _ _ _ c.join-worker.ensures.second.0 c.join-worker.ensures.first in
      search rules;
  room = no_smaller c.args.done.cap c.join-worker.result.1.cap c.push.new.self.cap c.join-worker.ensures.second.1.0 c.in-Ok.ensures.capacity;
  len = one_desk_more c.push.new.self.len c.join-worker.result.1.len c.args.done.len c.pop.new.self.len c.args.waiting.len c.in-Ok.ensures.len
      c.join-worker.ensures.second.1.1 c.in-Some.ensures.cases;
}
