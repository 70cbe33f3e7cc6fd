use Rattle.std.proofs.Common.{ap, refl, ◌∙◌}
use Rattle.domain_tests.specs.JobRun.{opened}
use Rattle.orc_core.specs.Machine.{Machine}
use Rattle.orc_core.specs.Runs.{run}
use Rattle.orc_sound.specs.Journals.{plain}
use Rattle.domain_tests.proofs.tests.job.opened_machine.Goals as goal

pub returns : goal.returns
returns c = c.if-not-opens.ensures refl ∙ ap (λ (m : Machine). run m (plain opened)) c.in-Ok.ensures
