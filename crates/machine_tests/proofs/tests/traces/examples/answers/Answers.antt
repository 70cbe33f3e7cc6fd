use Rattle.std.proofs.Common.{List, ℕ, ap, arith, get_or, refl}
use Rattle.std.specs.Fmt.{digits}
use Rattle.machine_tests.proofs.tests.traces.examples.answers.Goals as goal

pub returns-clause-played : goal.returns-clause-played
unfolding digits
returns-clause-played c = refl

pub returns-clause-unreadable : goal.returns-clause-unreadable
unfolding digits
returns-clause-unreadable c = refl

pub returns-clause-not_allowed : goal.returns-clause-not_allowed
unfolding digits
returns-clause-not_allowed c e = let size = ap (λ (t : List ℕ). get_or t 5 0) e in omega (arith, size)
