-- The board is asked for no more than a lap is.
use Rattle.std.proofs.Common.{◌∙◌}
use Rattle.workers_bench.proofs.laps.lap_of_workers.Goals as goal

pub run_at_desks-requires-clause-posters : goal.run_at_desks-requires-clause-posters
run_at_desks-requires-clause-posters g c κs within = c.args.crew.some_posters.0

pub run_at_desks-requires-clause-good : goal.run_at_desks-requires-clause-good
run_at_desks-requires-clause-good g c κs within = c.requires.good

pub run_at_desks-requires-clause-desks : goal.run_at_desks-requires-clause-desks
run_at_desks-requires-clause-desks g c κs within = c.requires.desks

pub run_at_desks-requires-clause-count : goal.run_at_desks-requires-clause-count
run_at_desks-requires-clause-count g c κs within = c.args.desks.ok.0 ∙ c.requires.count

pub run_at_desks-requires-clause-agents : goal.run_at_desks-requires-clause-agents
run_at_desks-requires-clause-agents g c κs within = c.requires.agents

pub run_at_desks-requires-clause-first : goal.run_at_desks-requires-clause-first
run_at_desks-requires-clause-first g c κs within = c.requires.first
