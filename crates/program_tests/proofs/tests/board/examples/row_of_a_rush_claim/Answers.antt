use Rattle.std.proofs.Common.{true, false, refl}
use Rattle.orc_jobs.specs.declared.line.Job.TheVariants as job
use Rattle.program_tests.proofs.tests.board.examples.row_of_a_rush_claim.Goals as goal

pub returns-clause-done : goal.returns-clause-done
returns-clause-done c = record {
  id = 2;
  job = record { op = job.Bytes; text = _; is = refl };
  value = (_, refl, refl);
  queues = elim [ false ↦ refl | true ↦ refl ];
  set = refl;
}

pub returns-clause-not_without_rush : goal.returns-clause-not_without_rush
returns-clause-not_without_rush c = λ row. cc row.job.is
