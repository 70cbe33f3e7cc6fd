use Rattle.orc_heap.proofs.Told.{linked_told, named_told}
use Rattle.orc_heap.proofs.laws.a_node_tells_its_journal.Goals as goal

pub returns-clause-linked : goal.returns-clause-linked
returns-clause-linked g c = linked_told

pub returns-clause-named : goal.returns-clause-named
returns-clause-named g c = named_told
