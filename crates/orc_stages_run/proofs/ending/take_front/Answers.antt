use Rattle.orc_pipeline.proofs.Taken.{first_and_rest}
use Rattle.orc_stages_run.proofs.ending.take_front.Goals as goal

pub returns : goal.returns
returns g c = first_and_rest _ _ _ c.requires c.remove.ensures.value c.remove.ensures.items
