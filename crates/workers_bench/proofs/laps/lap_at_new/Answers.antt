-- There is a desk for each agent.
use Rattle.std.proofs.Common.{sym, ◌∙◌}
use Rattle.workers_bench.proofs.laps.lap_at_new.Goals as goal

pub fresh_desks-requires-clause-queue_passes : goal.fresh_desks-requires-clause-queue_passes
fresh_desks-requires-clause-queue_passes g c = c.requires.queue.usable

pub fresh_desks-requires-clause-queue_fresh : goal.fresh_desks-requires-clause-queue_fresh
fresh_desks-requires-clause-queue_fresh g c = c.requires.queue.fresh

pub fresh_desks-requires-clause-queue_agents : goal.fresh_desks-requires-clause-queue_agents
fresh_desks-requires-clause-queue_agents g c = c.requires.queue.order

pub fresh_desks-requires-clause-rush_passes : goal.fresh_desks-requires-clause-rush_passes
fresh_desks-requires-clause-rush_passes g c = c.requires.rush.usable

pub fresh_desks-requires-clause-rush_fresh : goal.fresh_desks-requires-clause-rush_fresh
fresh_desks-requires-clause-rush_fresh g c = c.requires.rush.fresh

pub fresh_desks-requires-clause-rush_agents : goal.fresh_desks-requires-clause-rush_agents
fresh_desks-requires-clause-rush_agents g c = c.requires.rush.order

pub fresh_desks-requires-clause-set_passes : goal.fresh_desks-requires-clause-set_passes
fresh_desks-requires-clause-set_passes g c = c.requires.set.usable

pub fresh_desks-requires-clause-set_fresh : goal.fresh_desks-requires-clause-set_fresh
fresh_desks-requires-clause-set_fresh g c = c.requires.set.fresh

pub fresh_desks-requires-clause-set_agents : goal.fresh_desks-requires-clause-set_agents
fresh_desks-requires-clause-set_agents g c = c.requires.set.order

pub fresh_desks-requires-clause-same : goal.fresh_desks-requires-clause-same
fresh_desks-requires-clause-same g c = (c.requires.rush.count ∙ sym c.requires.queue.count, c.requires.set.count ∙ sym c.requires.queue.count)

pub lap_of_calls-requires-clause-desks : goal.lap_of_calls-requires-clause-desks
lap_of_calls-requires-clause-desks g c κs within = c.in-Ok.ensures.desks

pub lap_of_calls-requires-clause-threads : goal.lap_of_calls-requires-clause-threads
lap_of_calls-requires-clause-threads g c κs within = c.args.crew.some_posters.0

pub lap_of_workers-requires-clause-good : goal.lap_of_workers-requires-clause-good
lap_of_workers-requires-clause-good g c κs within = c.requires.good

pub lap_of_workers-requires-clause-desks : goal.lap_of_workers-requires-clause-desks
lap_of_workers-requires-clause-desks g c κs within = c.in-Ok.ensures.desks

pub lap_of_workers-requires-clause-count : goal.lap_of_workers-requires-clause-count
lap_of_workers-requires-clause-count g c κs within = c.in-Ok.ensures.count ∙ c.requires.queue.count

pub lap_of_workers-requires-clause-agents : goal.lap_of_workers-requires-clause-agents
lap_of_workers-requires-clause-agents g c κs within = (c.requires.queue.agents, c.requires.rush.agents, c.requires.set.agents)

pub lap_of_workers-requires-clause-first : goal.lap_of_workers-requires-clause-first
lap_of_workers-requires-clause-first g c κs within = (c.requires.queue.first, c.requires.rush.first)
