use Rattle.std.proofs.Common.{ap, ◌∙◌, ◌++◌}
use Rattle.std.specs.Prelude.{slice_index}
use Rattle.std.specs.String.{string_bytes}
use Rattle.orc_trace.specs.Answers.{life_line}
use Rattle.orc_trace.proofs.LifeLines.{one-more-line}
use Rattle.orc_trace.proofs.text.push_lives.Goals as goal

pub loop-row-preserved : goal.loop-row-preserved
loop-row-preserved c =
    one-more-line (λ r. life_line r (slice_index c.args.lives.now r)) (string_bytes c.args.text.now) _ _ c.loop-row.row c.loop-row.invariant
    (c.in_ok-push_life.ensures ∙ ap (λ life. string_bytes c.loop-row.text ++ life_line c.loop-row.row life) c.get.ensures)
