use Rattle.std.proofs.Common.{◌++◌, ◌∙◌, ap, append_assoc, slice_index_or, sym, take}
use Rattle.std.specs.String.{string_bytes}
use Rattle.orc_stages_text.specs.StagesText.{out_line, out_lines}
use Rattle.orc_stages_text.proofs.Numbered.{out_more}
use Rattle.orc_stages_text.proofs.text.push_outs.Goals as goal

pub loop-at-preserved : goal.loop-at-preserved
loop-at-preserved c =
    let i = c.loop-at.at in
    let outs = c.args.outs.now in
    let before = string_bytes c.args.text.now in
    c.in_ok-push_out.ensures
    ∙ (ap (λ t. t ++ out_line i (slice_index_or outs i 0)) c.loop-at.invariant
    ∙ (append_assoc before (out_lines 0 (take i outs)) (out_line i (slice_index_or outs i 0))
    ∙ ap (λ t. before ++ t) (sym (out_more outs i 0 c.loop-at-test.true))))
