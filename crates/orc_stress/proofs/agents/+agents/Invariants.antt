use Rattle.std.proofs.Common.{◌+◌, ◌*◌, vec_len}
use Rattle.orc_stress.proofs.agents.+agents.Given as goal

abbrev pub decreases-others : goal.decreases-others
decreases-others g l = 2 * vec_len l.waiting + 1

abbrev pub decreases-run_agents : goal.decreases-run_agents
decreases-run_agents g l = 2 * vec_len l.waiting
