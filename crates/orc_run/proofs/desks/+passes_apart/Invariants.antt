use Rattle.std.proofs.Common.{vec_len}
use Rattle.orc_run.proofs.desks.+passes_apart.Given as goal

abbrev pub decreases-passes_apart : goal.decreases-passes_apart
decreases-passes_apart g l = vec_len l.desks
