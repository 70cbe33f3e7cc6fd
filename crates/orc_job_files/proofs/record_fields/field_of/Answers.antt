use Rattle.orc_job_files.proofs.Fields.{field-none, field-some}
use Rattle.orc_job_files.proofs.record_fields.field_of.Goals as goal

pub returns-in-Some : goal.returns-in-Some
returns-in-Some c = field-some _ _ _ c.in-Some.ensures.value

pub returns-in-None : goal.returns-in-None
returns-in-None c = field-none _ _ c.in-None.ensures.value
