use Rattle.std.proofs.Common.{◌+◌, ◌*◌, vec_len}
use Rattle.orc_team.proofs.team.+workers.Given as goal

abbrev pub decreases-others : goal.decreases-others
decreases-others g l = 2 * vec_len l.waiting + 1

abbrev pub decreases-run_workers : goal.decreases-run_workers
decreases-run_workers g l = 2 * vec_len l.waiting
