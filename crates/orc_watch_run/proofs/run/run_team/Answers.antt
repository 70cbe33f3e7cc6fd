use Rattle.std.proofs.Common.{rules, ℕ, subst, ◌∷◌, []}
use Rattle.orc_board.specs.Stretches.{Stretch, beside}
use Rattle.orc_pairs_rule.specs.declared.entry.CellEntry.TheVariants.{Seen}
use Rattle.orc_watch_run.specs.CellView.{cell_view, of_cell}
use Rattle.orc_watch_run.specs.Follows.{IsInRun}
use Rattle.orc_watch_run.proofs.CameBack.{Laws, all_in_run, came_back, crowd_in_run, others_after}
use Rattle.orc_team.proofs.Learned.{none_at_start}
use Rattle.orc_board.proofs.ListFacts.{AllByRecursion-map}
use Rattle.orc_team.proofs.Teams.{team_did}
use Rattle.orc_watch_run.proofs.Over.{replies_few}
use Rattle.orc_watch_run.proofs.run.run_team.Goals as goal

pub run_workers-team-requires-clause-ready : goal.run_workers-team-requires-clause-ready
run_workers-team-requires-clause-ready g c κs within = AllByRecursion-map _ _ (λ w ready. search rules) _ c.requires.team.ready

pub learn_from_team-requires-clause-others : goal.learn_from_team-requires-clause-others
learn_from_team-requires-clause-others g c =
    others_after g.L.Links c.args.cell.now.links c.args.lines.now c.args.workers _ _
    (team_did _ _ _ _ _ _ (λ w v d. search rules) c.requires.team.nobody_is_done c.run_workers-team.ensures.team)

pub tell_laws-requires : goal.tell_laws-requires
tell_laws-requires g c = c.learn_from_team.ensures.desk

pub learn_from_team-requires-2-clause-others : goal.learn_from_team-requires-2-clause-others
learn_from_team-requires-2-clause-others g c = c.learn_from_team.ensures.others

pub tell_laws-requires-2 : goal.tell_laws-requires-2
tell_laws-requires-2 g c = c.learn_from_team-2.ensures.desk

pub returns-clause-back : goal.returns-clause-back
returns-clause-back g c =
    let d = c.args.cell.now.links in
    let x = cell_view g.L.Links d in
    let e1 = c.learn_from_team.ensures in
    let e3 = c.learn_from_team-2.ensures in
    let workers = c.args.workers in
    let p1 = c.learn_from_team.new.desk in
    let p3 = c.learn_from_team-2.new.desk in
    let known1 = c.tell_laws.ensures in
    let known3 = c.tell_laws-2.ensures in
    let laws : Laws x (IsInRun workers) = record {
      grows = known1.grows;
      few = crowd_in_run (g.L.Links.agents d) workers c.requires.agents;
      none = none_at_start x.history known1.grows _ c.requires.pass.new;
    } in
    let read = subst (λ (a : ℕ). Stretch of_cell x a (Seen a c.read_parts-now_left.result.0 c.read_parts-now_left.result.1 ∷ []) (g.L.Links.journal p1)
    (g.L.Links.journal c.read_parts-now_left.new.p)) e1.desk.agent_is c.read_parts-now_left.ensures.seen in
    came_back g.L.Links d c.args.lines.now workers c.args.pass p1 c.read_parts-now_left.new.p p3 _ _ _ _ _ _
    laws (all_in_run (g.L.Links.agents d) workers _ c.requires.agents known1.below) (all_in_run (g.L.Links.agents d) workers _ c.requires.agents known3.below)
    c.requires.pass.new c.requires.team.numbered c.requires.team.count c.requires.team.new
    (team_did _ _ _ _ _ _ (λ w v d. search rules) c.requires.team.nobody_is_done c.run_workers-team.ensures.team)
    e1.learned e1.same read e3.learned e3.same e3.desk known3 e3.others

pub returns-clause-few : goal.returns-clause-few
returns-clause-few g c =
    let back = returns-clause-back g c in
    replies_few (beside (cell_view g.L.Links c.args.cell.now.links) (IsInRun c.args.workers)) c.args.lines.now c.args.workers _ _ c.requires.workers
    back.numbered back.many back.told
