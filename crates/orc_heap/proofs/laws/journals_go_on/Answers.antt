use Rattle.orc_heap.proofs.Runs.{lawful-join, lawful-left, lawful-right, run_from-append}
use Rattle.orc_heap.proofs.laws.journals_go_on.Goals as goal

pub returns-clause-heap : goal.returns-clause-heap
returns-clause-heap g c = run_from-append

pub returns-clause-lawful : goal.returns-clause-lawful
returns-clause-lawful g c = λ h es fs. ((λ l. (lawful-left h es fs l, lawful-right h es fs l)), (λ l. lawful-join h es fs l.0 l.1))
