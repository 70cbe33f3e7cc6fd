use Rattle.std.proofs.Common.{ap, ◌∙◌, ◌++◌}
use Rattle.orc_trace.specs.Answers.{leak_line, life_lines}
use Rattle.orc_trace.proofs.text.audit_text.Goals as goal

pub returns : goal.returns
returns c =
    c.in_ok-push_leak.ensures ∙
    ap (λ t. t ++ leak_line c.args.audit.now.leak)
    (c.in_ok-push_lives.ensures ∙ ap (λ t. t ++ life_lines c.args.audit.now.lives) c.in_ok-text.ensures)
