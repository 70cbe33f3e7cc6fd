-- By induction on the list: the act of each step fits the heap that the state shows.
use Rattle.orc_projection.proofs.Mirrored.{projection_lawful, projection_mirrors}
use Rattle.orc_projection.proofs.laws.every_journal_projects_to_a_heap_journal.Goals as goal

pub returns-clause-lawful : goal.returns-clause-lawful
returns-clause-lawful g c = projection_lawful

pub returns-clause-mirrors : goal.returns-clause-mirrors
returns-clause-mirrors g c = projection_mirrors
