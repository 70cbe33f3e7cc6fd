use Rattle.orc_projection.proofs.Mirrored.{StoresUnmarked-append, ids-append, project-append}
use Rattle.orc_projection.proofs.laws.projections_go_on.Goals as goal

pub returns-clause-events : goal.returns-clause-events
returns-clause-events g c = project-append

pub returns-clause-ids : goal.returns-clause-ids
returns-clause-ids g c = ids-append

pub returns-clause-unmarked : goal.returns-clause-unmarked
returns-clause-unmarked g c = StoresUnmarked-append
