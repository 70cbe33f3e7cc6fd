use Rattle.orc_sound.proofs.ForRuns.{freed_between, lives_counted}
use Rattle.orc_sound.proofs.laws.a_row_is_freed_once_a_life.Goals as goal

pub returns-clause-lives : goal.returns-clause-lives
returns-clause-lives c = lives_counted

pub returns-clause-between : goal.returns-clause-between
returns-clause-between c = freed_between
