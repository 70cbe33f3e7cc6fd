use Rattle.orc_pipeline.proofs.Desks.{stage_first}
use Rattle.orc_pipeline.proofs.desk.run_between.Goals as goal

pub returns-clause-did : goal.returns-clause-did
returns-clause-did g c =
    stage_first g.Q.SharedQueue c.args.queue.now _ _ _ _ _ _ _ _ _ _ _ _ _ _ c.in-Some.ensures.cases.0 c.in-Some-split_first_mut.ensures.cases.0
    c.requires.passes.1 c.run_stage.ensures.moved c.run_stage.ensures.few c.run_stage.ensures.last
