use Rattle.std.proofs.Common.{◌≡◌, take}
use Rattle.orc_jobs.specs.Generated.{text_of_lines}
use Rattle.orc_job_files.proofs.generated_text.lines_text.Given as goal

abbrev pub invariant-loop-index : goal.invariant-loop-index
invariant-loop-index l = l.text.items ≡ text_of_lines (take l.index l.lines)
