use Rattle.orc_pipeline.proofs.Desks.{poster_did}
use Rattle.orc_pipeline.proofs.desk.run_poster_at.Goals as goal

pub returns-clause-did : goal.returns-clause-did
returns-clause-did g c =
    poster_did g.Q.SharedQueue c.in-Some.queue.now _ _ _ _ _ _ _ _ _ _ c.in-Some.ensures.cases.0 c.in-Some-split_first_mut.ensures.cases.0
    c.post_items.ensures.posted c.post_items.ensures.in_file_order
