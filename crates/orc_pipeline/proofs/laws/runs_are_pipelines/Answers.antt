use Rattle.orc_stages.specs.Desks.{view_at}
use Rattle.orc_pipeline.proofs.Pipelines.{pipeline_of}
use Rattle.orc_pipeline.proofs.laws.runs_are_pipelines.Goals as goal

pub returns : goal.returns
returns g c = λ lines posters stages posts work own moves outs k some short ran in_order none_of_zero are.
    pipeline_of (view_at g.Q.SharedQueue c.args.queues.now) lines posters stages posts work own outs k some short ran moves in_order none_of_zero are
