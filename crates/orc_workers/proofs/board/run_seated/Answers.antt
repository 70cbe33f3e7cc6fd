use Rattle.std.proofs.Common.{rules, ◌+◌, ℕ, true, false, subst, arith, length, suc}
use Rattle.orc_board.specs.Desk.{seen_in}
use Rattle.orc_board.specs.Stretches.{queue_views, set_view}
use Rattle.orc_board.specs.Follows.{TakingRest, IsWorker}
use Rattle.orc_workers.specs.Learning.{LawsTell}
use Rattle.orc_board.proofs.ListFacts.{AllByRecursion-map}
use Rattle.orc_board.proofs.Wholes.{Below}
use Rattle.orc_team.proofs.Learned.{none_at_start}
use Rattle.orc_team.proofs.Teams.{for_both, team_did}
use Rattle.orc_workers.proofs.CameBack.{Laws, others_after, came_back, rest_last, below_of, crowd_in_run, known_as}
use Rattle.orc_workers.proofs.Over.{few_replies}
use Rattle.orc_workers.proofs.board.run_seated.Goals as goal

pub run_workers-workers-requires-clause-ready : goal.run_workers-workers-requires-clause-ready
run_workers-workers-requires-clause-ready g c κs within = AllByRecursion-map _ _ (λ w ready. search rules) _ c.requires.team.ready

pub learn_from_team-requires-clause-others : goal.learn_from_team-requires-clause-others
learn_from_team-requires-clause-others g c =
    others_after g.Q.SharedQueue g.S.SharedSet c.args.queue.now c.args.rush.now c.args.set.now c.args.lines.now c.args.posters _ _
    (team_did _ _ _ _ _ _ (λ w v d. search rules) c.requires.team.nobody_is_done c.run_workers-workers.ensures.team)

pub tell_laws-requires : goal.tell_laws-requires
tell_laws-requires g c = c.learn_from_team.ensures.desk

pub learn_from_team-requires-2-clause-others : goal.learn_from_team-requires-2-clause-others
learn_from_team-requires-2-clause-others g c = c.learn_from_team.ensures.others

pub tell_laws-requires-2 : goal.tell_laws-requires-2
tell_laws-requires-2 g c = c.learn_from_team-2.ensures.desk

pub returns-clause-back : goal.returns-clause-back
returns-clause-back g c =
    let queue = c.args.queue.now in
    let rush = c.args.rush.now in
    let set = c.args.set.now in
    let qv = queue_views g.Q.SharedQueue queue rush in
    let sv = set_view g.S.SharedSet set in
    let d1 = c.learn_from_team.new.desk in
    let d3 = c.learn_from_team-2.new.desk in
    let e1 = c.learn_from_team.ensures in
    let e3 = c.learn_from_team-2.ensures in
    let N = c.args.posters + c.args.takers in
    let C = IsWorker c.args.posters c.args.takers in
    let known1 = c.tell_laws.ensures in
    let known3 = c.tell_laws-2.ensures in
    let laws : Laws qv sv C = record {
      queues_grow = known1.queues_grow;
      set_grows = known1.set_grows;
      queues_few = for_both (λ b. Below (qv b).crowd C)
          (crowd_in_run (g.Q.SharedQueue.crowd queue) _ _ _ c.requires.agents.0 (known1.queues_crowd false))
          (crowd_in_run (g.Q.SharedQueue.crowd rush) _ _ _ c.requires.agents.1 (known1.queues_crowd true));
      set_few = crowd_in_run (g.S.SharedSet.crowd set) _ _ _ c.requires.agents.2 known1.set_crowd;
      queues_none = λ b. none_at_start (qv b).history (known1.queues_grow b) _ (c.requires.desk.queues_new b);
      set_none = none_at_start sv.history known1.set_grows _ c.requires.desk.set_new;
    } in
    let below1 = below_of g.Q.SharedQueue g.S.SharedSet queue rush set c.args.posters c.args.takers _ _ _ d1 c.requires.agents.0 c.requires.agents.1
    c.requires.agents.2 known1 in
    let below3 = below_of g.Q.SharedQueue g.S.SharedSet queue rush set c.args.posters c.args.takers _ _ _ d3 c.requires.agents.0 c.requires.agents.1
    c.requires.agents.2 known3 in
    let known : LawsTell g.Q.SharedQueue g.S.SharedSet queue rush set (suc N) (suc N) (suc N) d3 =
    known_as g.Q.SharedQueue g.S.SharedSet queue rush set _ _ _ _ d3 (omega (arith, c.requires.agents.0)) (omega (arith, c.requires.agents.1))
    (omega (arith, c.requires.agents.2)) known3 in
    let taking = subst (λ (a : ℕ). TakingRest qv sv c.args.lines.now 0 a c.take_rest.new.replies.items (seen_in g.Q.SharedQueue d1)
    (g.S.SharedSet.journal d1.set) (seen_in g.Q.SharedQueue c.take_rest.new.desk) (g.S.SharedSet.journal c.take_rest.new.desk.set))
    e1.desk.queue_agent c.take_rest.ensures.taking in
    let last = rest_last qv _ (length c.args.lines.now) (length c.take_rest.new.replies.items) c.take_rest.new.replies.spare c.args.takes.spare
    (seen_in g.Q.SharedQueue d1) (seen_in g.Q.SharedQueue c.take_rest.new.desk) e1.desk.queue_agent c.take_rest.ensures.last c.requires.enough
    c.take_rest.ensures.spare in
    came_back g.Q.SharedQueue g.S.SharedSet queue rush set c.args.lines.now c.args.posters c.args.takers c.args.desk d1 c.take_rest.new.desk d3
    c.take_rest.new.replies.items _ _ _ _
    laws below1 below3 c.requires.desk.queues_new c.requires.desk.set_new c.requires.team.numbered c.requires.team.count c.requires.team.new
    (team_did _ _ _ _ _ _ (λ w v d. search rules) c.requires.team.nobody_is_done c.run_workers-workers.ensures.team)
    e1.learned e1.same taking last e3.learned e3.same e3.desk known e3.others

pub returns-clause-few : goal.returns-clause-few
returns-clause-few g c =
    few_replies g.Q.SharedQueue g.S.SharedSet c.args.queue.now c.args.rush.now c.args.set.now c.args.lines.now c.args.posters c.args.takers
    _ _ _ c.requires.posters c.requires.good.few (for_both _ c.requires.first.0 c.requires.first.1) (returns-clause-back g c)
