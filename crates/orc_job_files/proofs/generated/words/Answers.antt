use Rattle.std.proofs.Common.{◌∙◌, ap, codes, replicate, sym}
use Rattle.std.specs.List.{join_with_byte}
use Rattle.std.proofs.lemmas.List.{length-replicate}
use Rattle.orc_job_files.proofs.GeneratedLines.{replicate-one_more}
use Rattle.orc_job_files.proofs.generated.words.Goals as goal

pub loop-at-preserved : goal.loop-at-preserved
loop-at-preserved c =
    c.in_ok-push_piece.ensures (replicate c.loop-at.at (codes "ab")) (length-replicate c.loop-at.at (codes "ab")) c.loop-at.invariant
    ∙ ap (join_with_byte 32) (sym (replicate-one_more c.loop-at.at (codes "ab")))
