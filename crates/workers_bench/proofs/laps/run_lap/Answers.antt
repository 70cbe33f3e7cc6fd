-- All three are new.
use Rattle.workers_bench.proofs.laps.run_lap.Goals as goal

pub lap_at_new-requires-clause-good : goal.lap_at_new-requires-clause-good
lap_at_new-requires-clause-good g c κs within = c.requires

pub lap_at_new-requires-clause-queue : goal.lap_at_new-requires-clause-queue
lap_at_new-requires-clause-queue g c κs within = record {
  usable = c.in-Ok.ensures.usable;
  fresh = c.in-Ok.ensures.fresh;
  order = c.in-Ok.ensures.agents;
  first = c.in-Ok.ensures.first;
  count = c.in-Ok.ensures.passes;
  agents = c.in-Ok.ensures.all;
}

pub lap_at_new-requires-clause-rush : goal.lap_at_new-requires-clause-rush
lap_at_new-requires-clause-rush g c κs within = record {
  usable = c.in-Ok-new_queue.ensures.usable;
  fresh = c.in-Ok-new_queue.ensures.fresh;
  order = c.in-Ok-new_queue.ensures.agents;
  first = c.in-Ok-new_queue.ensures.first;
  count = c.in-Ok-new_queue.ensures.passes;
  agents = c.in-Ok-new_queue.ensures.all;
}

pub lap_at_new-requires-clause-set : goal.lap_at_new-requires-clause-set
lap_at_new-requires-clause-set g c κs within = record {
  usable = c.in-Ok-new_set.ensures.usable;
  fresh = c.in-Ok-new_set.ensures.fresh;
  order = c.in-Ok-new_set.ensures.agents;
  count = c.in-Ok-new_set.ensures.passes;
  agents = c.in-Ok-new_set.ensures.all;
}
