use Rattle.std.proofs.Common.{rules, ◌≡◌, ◌<◌, ◌+◌, ◌-◌, suc, List, refl, subst, arith}
use Rattle.std.proofs.lemmas.List.{with_items_is, places}
use Rattle.orc_pipeline.specs.Desks.{StageDid}
use Rattle.orc_pipeline.proofs.Desks.{stage_told}
use Rattle.orc_pipeline.proofs.team.run_worker.Goals as goal

pub returns : goal.returns
returns g c =
    let r = c.requires.ready in
    let e = c.run_stage_at.ensures in
    let agent = c.args.worker.agent in
    let posters = c.args.posters in
    let more : posters < agent = omega (arith, c.if-agent-posters.false) in
    let did : StageDid g.Q.SharedQueue c.args.queues.now c.args.lines.now (agent - posters - 1) (agent - posters) agent c.args.worker.desk.passes.items
    c.run_stage_at.new.passes c.run_stage_at.new.replies.items =
    subst (λ (ps : List g.row.Q-Pass.Denot). StageDid g.Q.SharedQueue c.args.queues.now c.args.lines.now (agent - posters - 1) (agent - posters) agent ps
    c.run_stage_at.new.passes c.run_stage_at.new.replies.items) c.as_mut_slice-2.ensures.value e.did in
    let stage : agent - posters ≡ suc (agent - posters - 1) = omega (arith, more) in
    let place : agent ≡ posters + suc (agent - posters - 1) = omega (arith, more) in
    let same = with_items_is c.args.worker.desk.passes c.run_stage_at.new.passes (search (rules, places)) in
    record {
      agent_is = refl;
      no_caller = r.no_caller;
      passes = rw same e.passes;
      told = rw same (stage_told g.Q.SharedQueue c.args.queues.now c.args.lines.now posters _ _ agent _ _ _ _ did stage place r.no_posts);
      spare = e.spare;
    }
