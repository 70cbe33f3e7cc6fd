use Rattle.std.proofs.Common.{refl}
use Rattle.std.specs.Fmt.{digits}
use Rattle.program_tests.proofs.tests.report.report_with_rush.Goals as goal

pub returns : goal.returns
unfolding digits
returns c = refl
