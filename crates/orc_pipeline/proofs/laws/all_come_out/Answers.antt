use Rattle.orc_stages.specs.Desks.{view_at}
use Rattle.orc_pipeline.proofs.ComeOut.{come_out}
use Rattle.orc_pipeline.proofs.laws.all_come_out.Goals as goal

pub returns : goal.returns
returns g c = λ lines posters stages posts moves outs k pipeline placed.
    come_out (view_at g.Q.SharedQueue c.args.queues.now) lines posters stages posts moves outs k pipeline placed
