use Rattle.orc_job_files.proofs.GeneratedText.{generated-file}
use Rattle.orc_job_files.proofs.generated_text.generated_lines_are_read.Goals as goal

pub returns : goal.returns
returns c seed lines few = generated-file seed lines few
