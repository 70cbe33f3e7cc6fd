-- The desks are fresh where there is no queue yet.
use Rattle.orc_stages_run.proofs.Rows.{fresh_none}
use Rattle.orc_stages_run.proofs.making.make_row.Goals as goal

pub add_queues-requires-clause-fresh : goal.add_queues-requires-clause-fresh
add_queues-requires-clause-fresh g c = fresh_none _ _ _ c.in_ok-with_capacity.ensures.items c.in_ok-empty_desks.ensures.fresh
