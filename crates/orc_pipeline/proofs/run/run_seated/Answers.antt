use Rattle.std.proofs.Common.{rules, ◌≡◌, ◌+◌, ◌-◌, suc, ℕ, ap, length, subst, arith}
use Rattle.orc_board.proofs.ListFacts.{AllByRecursion-map}
use Rattle.orc_team.proofs.Teams.{team_did}
use Rattle.orc_pipeline.specs.Team.{DidWork}
use Rattle.orc_pipeline.specs.Learning.{AreFor, AreKnown}
use Rattle.orc_pipeline.proofs.CameBack.{below_of, came_back, laws_of, others_after, others_moved}
use Rattle.orc_pipeline.proofs.Over.{few_replies}
use Rattle.orc_pipeline.proofs.run.run_seated.Goals as goal

pub run_workers-workers-requires-clause-ready : goal.run_workers-workers-requires-clause-ready
run_workers-workers-requires-clause-ready g c κs within = AllByRecursion-map _ _ (λ w ready. search rules) _ c.requires.team.ready

pub learn_from_team-requires-clause-others : goal.learn_from_team-requires-clause-others
learn_from_team-requires-clause-others g c =
    others_after g.Q.SharedQueue c.args.queues.now c.args.lines.now c.args.posters _ _
    (team_did _ _ _ _ _ _ (λ w v d. search rules) c.requires.team.nobody_is_done c.run_workers-workers.ensures.team)

pub learn_from_team-requires-2-clause-others : goal.learn_from_team-requires-2-clause-others
learn_from_team-requires-2-clause-others g c =
    others_moved g.Q.SharedQueue c.args.queues.now c.args.lines.now c.args.posters _ _ _ _ _ c.move_left.ensures.moved c.learn_from_team.ensures.others

pub move_left-requires-clause-all : goal.move_left-requires-clause-all
move_left-requires-clause-all g c =
    omega (
      arith,
      c.learn_from_team.ensures.len,
      c.run_workers-workers.ensures.len,
      c.args.done.ok.0,
      ap length c.requires.team.nobody_is_done,
      c.args.waiting.ok.0,
      c.requires.team.count,
      c.requires.queues.0,
    )

pub returns-clause-back : goal.returns-clause-back
returns-clause-back g c =
    let q = g.Q.SharedQueue in
    let queues = c.args.queues.now in
    let posters = c.args.posters in
    let stages : ℕ = length queues - 1 in
    let agents : posters + length queues ≡ suc (posters + stages) = omega (arith, c.requires.queues.0) in
    let for : AreFor q g.Q.LearnQueue.agents (suc (posters + stages)) queues =
    subst (λ (n : ℕ). AreFor q g.Q.LearnQueue.agents n queues) agents c.requires.agents in
    let d1 = c.learn_from_team.new.desk.passes.items in
    let d3 = c.learn_from_team-2.new.desk.passes.items in
    let known1 : AreKnown q queues (suc (posters + stages)) d1 = c.tell_laws.ensures (suc (posters + stages)) for in
    let known3 : AreKnown q queues (suc (posters + stages)) d3 = c.tell_laws-2.ensures (suc (posters + stages)) for in
    let did = team_did _ _ (DidWork q queues c.args.lines.now posters) _ _ _ (λ w v d. search rules) c.requires.team.nobody_is_done c.run_workers-workers.ensures.team in
    came_back q queues c.args.lines.now posters stages (laws_of q queues posters stages c.args.desk.passes.items d1 known1 c.requires.new)
    c.args.desk c.learn_from_team.new.desk c.move_left.new.desk c.learn_from_team-2.new.desk c.move_left.new.outs _ _ _ _ _
    (below_of q queues posters stages d1 known1) (below_of q queues posters stages d3 known3) c.requires.new c.requires.team.numbered
    c.requires.team.count c.requires.team.new did
    c.learn_from_team.ensures.learned c.learn_from_team.ensures.same c.move_left.ensures.moved
    (omega (arith, c.move_left.ensures.spare, c.requires.outs.1)) c.learn_from_team-2.ensures.learned c.learn_from_team-2.ensures.same
    c.learn_from_team-2.ensures.desk known3 c.learn_from_team-2.ensures.others

pub returns-clause-few : goal.returns-clause-few
returns-clause-few g c =
    let back = returns-clause-back g c in
    few_replies g.Q.SharedQueue c.args.queues.now c.args.lines.now c.args.posters (length c.args.queues.now - 1)
    c.learn_from_team-2.new.desk _ _ c.requires.posters c.requires.good.few back.many back
