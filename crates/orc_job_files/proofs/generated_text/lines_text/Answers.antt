use Rattle.std.proofs.Common.{◌∙◌, ◌++◌, ap, sym}
use Rattle.orc_jobs.specs.Generated.{line_text}
use Rattle.orc_job_files.proofs.GeneratedText.{text-one_more}
use Rattle.orc_job_files.proofs.generated_text.lines_text.Goals as goal

pub loop-index-preserved : goal.loop-index-preserved
loop-index-preserved c =
    c.in_ok-push_line.ensures
    ∙ (ap (λ t. t ++ line_text c.get.result.now) c.loop-index.invariant ∙ sym (text-one_more c.args.lines.now c.loop-index.index c.get.result.now c.get.ensures))
