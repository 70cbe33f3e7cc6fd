use Rattle.std.proofs.Common.{ap, arith, length, refl}
use Rattle.std.specs.Fmt.{digits}
use Rattle.machine_tests.proofs.tests.trace_text.lines.Goals as goal

pub returns-clause-root : goal.returns-clause-root
unfolding digits
returns-clause-root c = refl

pub returns-clause-row : goal.returns-clause-row
unfolding digits
returns-clause-row c = refl

pub returns-clause-marked : goal.returns-clause-marked
unfolding digits
returns-clause-marked c = refl

pub returns-clause-publish : goal.returns-clause-publish
unfolding digits
returns-clause-publish c = refl

pub returns-clause-cas : goal.returns-clause-cas
unfolding digits
returns-clause-cas c = refl

pub returns-clause-side : goal.returns-clause-side
unfolding digits
returns-clause-side c = refl

pub returns-clause-store : goal.returns-clause-store
unfolding digits
returns-clause-store c = refl

pub returns-clause-side_store : goal.returns-clause-side_store
unfolding digits
returns-clause-side_store c = refl

pub returns-clause-steps : goal.returns-clause-steps
unfolding digits
returns-clause-steps c = refl

pub returns-clause-not_marked : goal.returns-clause-not_marked
unfolding digits
returns-clause-not_marked c e = let size = ap length e in omega (arith, size)

pub returns-clause-moveon : goal.returns-clause-moveon
unfolding digits
returns-clause-moveon c = refl

pub returns-clause-handover : goal.returns-clause-handover
unfolding digits
returns-clause-handover c = refl

pub returns-clause-decheld : goal.returns-clause-decheld
unfolding digits
returns-clause-decheld c = refl
