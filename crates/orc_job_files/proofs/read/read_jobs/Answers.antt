use Rattle.std.proofs.lemmas.Result.{IfOk-weaker}
use Rattle.orc_jobs.specs.GoodLines.{AreGood}
use Rattle.orc_job_files.specs.JobGrammar.{IsFileOf}
use Rattle.orc_job_files.proofs.GoodFiles.{good_file}
use Rattle.orc_job_files.proofs.read.read_jobs.Goals as goal

pub returns-clause-good : goal.returns-clause-good
returns-clause-good c =
    IfOk-weaker c.read_records.result (λ lines. IsFileOf lines c.args.bytes.now) AreGood
    (λ lines h. good_file lines c.args.bytes.now c.requires h) c.read_records.ensures.ok

pub returns-clause-only : goal.returns-clause-only
returns-clause-only c = c.read_records.ensures.only

pub returns-clause-bad : goal.returns-clause-bad
returns-clause-bad c = c.read_records.ensures.bad

pub returns-clause-many : goal.returns-clause-many
returns-clause-many c = c.read_records.ensures.many
