use Rattle.std.proofs.Common.{◌≡◌, List, [], ◌∷◌, ◌++◌, length, false, refl, ap, arith, length-append}
use Rattle.orc_history.specs.declared.queue.QueueEntry.{QueueEntry}
use Rattle.orc_history.specs.declared.queue.QueueEntry.TheVariants.{Empty}
use Rattle.program_tests.proofs.tests.board.examples.last_of_a_take.Goals as goal

pub returns-clause-rush_first : goal.returns-clause-rush_first
returns-clause-rush_first c = record {
  took = record { front = []; back = []; is = refl; others = tt };
  rush_first = λ e. record { front = []; back = []; is = refl; others = tt };
}

some_entry : (front back : List QueueEntry) → [] ≡ front ++ Empty 0 ∷ back → ⊥
some_entry front back e = omega (arith, ap length e, length-append front (Empty 0 ∷ back))

pub returns-clause-not_unasked : goal.returns-clause-not_unasked
returns-clause-not_unasked c = λ ends. let rush = ends.rush_first refl in some_entry rush.front rush.back rush.is

pub returns-clause-not_one_alone : goal.returns-clause-not_one_alone
returns-clause-not_one_alone c = λ ends. let queue = ends false in some_entry queue.front queue.back queue.is
