use Rattle.std.proofs.Common.{◌<◌, length, arith, refl}
use Rattle.std.proofs.lemmas.Option.{slice_get_within}
use Rattle.orc_jobs.proofs.GoodLinesLemmas.{good_one, good_few}
use Rattle.orc_board.proofs.desk.close_job.Goals as goal
use Rattle.orc_board.proofs.desk.close_job.Goals.{then-remove_key, else-remove_key}

pub job_value-requires : goal.job_value-requires
job_value-requires g c = good_one _ _ _ c.requires.good c.get.ensures

pub overflow_cast-result : goal.overflow_cast-result
overflow_cast-result g c =
    let place : c.args.job < length c.args.lines.now = slice_get_within c.args.lines.now c.args.job _ c.requires.job.is in
    omega (arith, place, good_few c.requires.good)

pub returns-clause-reply : goal.returns-clause-reply
returns-clause-reply g c = (refl, refl, refl, refl)

pub returns-clause-closed : goal.returns-clause-closed
returns-clause-closed g c = elim c.if-remove_key.branch [
  | then-remove_key w ↦ rw w.what-is (record {
    set = rw w.if-remove_key.true at c.remove_key.ensures.removed;
    value = (w.get.result.now, w.get.ensures, w.job_value.ensures.value);
  })
  | else-remove_key w ↦ rw w.what-is (record { set = rw w.if-remove_key.false at c.remove_key.ensures.removed; value = tt })
]
