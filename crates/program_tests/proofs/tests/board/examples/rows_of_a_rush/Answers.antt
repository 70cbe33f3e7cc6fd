use Rattle.std.proofs.Common.{◌≡◌, List, [], ◌∷◌, refl, ap}
use Rattle.orc_history.specs.declared.queue.QueueEntry.{QueueEntry}
use Rattle.orc_history.specs.declared.queue.QueueEntry.TheVariants.{Put}
use Rattle.orc_history.specs.declared.queue.QueueRefused.{QueueRefused}
use Rattle.orc_board.specs.Stretches.{Share}
use Rattle.program_tests.proofs.tests.board.examples.rows_of_a_rush.Goals as goal

pub returns-clause-rushed : goal.returns-clause-rushed
returns-clause-rushed c = record { word = tt; part = (refl, refl); other = refl }

pub returns-clause-not_posted : goal.returns-clause-not_posted
returns-clause-not_posted c = λ row. row.word

pub returns-clause-not_on_the_queue : goal.returns-clause-not_on_the_queue
returns-clause-not_on_the_queue c = λ row.
    let none : ◌≡◌ {A = List QueueEntry} (Put 1 1 4 ∷ []) [] = ap (λ (x : Share QueueEntry QueueRefused). x.own) row.other in
    cc none
