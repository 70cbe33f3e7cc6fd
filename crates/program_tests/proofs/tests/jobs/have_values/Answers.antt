use Rattle.orc_jobs.proofs.GoodLinesLemmas.{good_one}
use Rattle.program_tests.proofs.tests.jobs.have_values.Goals as goal

pub job_value-requires : goal.job_value-requires
job_value-requires g c = good_one c.args.lines.now _ c.get.result.now c.requires c.get.ensures
