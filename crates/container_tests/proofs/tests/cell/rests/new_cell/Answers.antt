-- Each pass may make a call, and stands at its agent's place.
use Rattle.std.proofs.Common.{Err, IfOk, Ok, Result}
use Rattle.container_tests.proofs.tests.cell.rests.new_cell.Goals as goal

-- what follows from two facts of the value that there may be
if_ok_both : {A E : Type 0} (r : Result A E) (P Q R : A → Type 0) → IfOk r P → IfOk r Q → ((a : A) → P a → Q a → R a) → IfOk r R
if_ok_both (Ok a) P Q R h k leads = leads a h k
if_ok_both (Err e) P Q R h k leads = tt

pub cell_over-requires-clause-links : goal.cell_over-requires-clause-links
cell_over-requires-clause-links g c = c.requires.two

pub cell_over-requires-clause-roots : goal.cell_over-requires-clause-roots
cell_over-requires-clause-roots g c = c.requires.roots

pub returns-clause-usable : goal.returns-clause-usable
returns-clause-usable g c = if_ok_both c.cell_over.result _ _ _ c.cell_over.ensures.usable c.cell_over.ensures.agents
    (λ made all in_place i d low. (all i d low, in_place i d low))

pub returns-clause-many : goal.returns-clause-many
returns-clause-many g c = c.cell_over.ensures.passes

pub returns-clause-all : goal.returns-clause-all
returns-clause-all g c = c.cell_over.ensures.all
