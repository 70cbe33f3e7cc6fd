-- The passes of the two queues and of the set are those of new ones.
use Rattle.container_tests.proofs.tests.over_domains.watched.run_watched.Goals as goal

pub run_over-requires-clause-short : goal.run_over-requires-clause-short
run_over-requires-clause-short g c κs within = c.requires.short

pub run_over-requires-clause-posters : goal.run_over-requires-clause-posters
run_over-requires-clause-posters g c κs within = c.requires.posters.0

pub run_over-requires-clause-queue_passes : goal.run_over-requires-clause-queue_passes
run_over-requires-clause-queue_passes g c κs within = c.in_ok-inner.ensures.usable

pub run_over-requires-clause-queue_fresh : goal.run_over-requires-clause-queue_fresh
run_over-requires-clause-queue_fresh g c κs within = c.in_ok-inner.ensures.fresh

pub run_over-requires-clause-queue_agents : goal.run_over-requires-clause-queue_agents
run_over-requires-clause-queue_agents g c κs within = c.in_ok-inner.ensures.agents

pub run_over-requires-clause-rush_passes : goal.run_over-requires-clause-rush_passes
run_over-requires-clause-rush_passes g c κs within = c.in_ok-inner-2.ensures.usable

pub run_over-requires-clause-rush_fresh : goal.run_over-requires-clause-rush_fresh
run_over-requires-clause-rush_fresh g c κs within = c.in_ok-inner-2.ensures.fresh

pub run_over-requires-clause-rush_agents : goal.run_over-requires-clause-rush_agents
run_over-requires-clause-rush_agents g c κs within = c.in_ok-inner-2.ensures.agents

pub run_over-requires-clause-set_passes : goal.run_over-requires-clause-set_passes
run_over-requires-clause-set_passes g c κs within = c.in_ok-inner-3.ensures.usable

pub run_over-requires-clause-set_fresh : goal.run_over-requires-clause-set_fresh
run_over-requires-clause-set_fresh g c κs within = c.in_ok-inner-3.ensures.fresh

pub run_over-requires-clause-set_agents : goal.run_over-requires-clause-set_agents
run_over-requires-clause-set_agents g c κs within = c.in_ok-inner-3.ensures.agents

pub run_over-requires-clause-first : goal.run_over-requires-clause-first
run_over-requires-clause-first g c κs within = (c.in_ok-inner.ensures.first, c.in_ok-inner-2.ensures.first)
