use Rattle.std.proofs.Common.{ap, arith, inl, inr, length, refl}
use Rattle.std.specs.Fmt.{digits}
use Rattle.machine_tests.proofs.tests.trace_text.first_lines.Goals as goal

pub returns-clause-two_links : goal.returns-clause-two_links
unfolding digits
returns-clause-two_links c = inl refl

pub returns-clause-one_link : goal.returns-clause-one_link
unfolding digits
returns-clause-one_link c = inl refl

pub returns-clause-unsaid : goal.returns-clause-unsaid
unfolding digits
returns-clause-unsaid c = inr (refl, refl)

pub returns-clause-not_unsaid : goal.returns-clause-not_unsaid
unfolding digits
returns-clause-not_unsaid c (inl e) = let size = ap length e in omega (arith, size)
returns-clause-not_unsaid c (inr e) = let bad = e.0 in omega (arith, bad)
