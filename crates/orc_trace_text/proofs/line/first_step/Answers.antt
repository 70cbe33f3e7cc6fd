use Rattle.std.proofs.Common.{◌∙◌, sym}
use Rattle.orc_words.specs.Bounds.{bounds_of}
use Rattle.orc_trace_text.specs.TraceText.{step_line}
use Rattle.orc_trace_text.proofs.Lines.{Lacks-line, shape-in_range}
use Rattle.orc_trace_text.proofs.Words.{cut-none, cut-unique}
use Rattle.orc_trace_text.proofs.line.first_step.Goals as goal

pub returns-in_err-rest-clause-none : goal.returns-in_err-rest-clause-none
returns-in_err-rest-clause-none c = rw c.from_residual.ensures (λ s rest h.
    let cut = rw c.in_err-rest.was at c.cut.ensures in
    cut-none 10 c.cut.result.0.now (step_line s.0 s.1) rest cut.1 (sym cut.0 ∙ h.text))

pub returns-in_err-agent-clause-none : goal.returns-in_err-agent-clause-none
returns-in_err-agent-clause-none c = rw c.from_residual-in_err-agent.ensures (λ s rest h.
    let cut = rw c.in_ok-rest.was at c.cut.ensures in
    let same = cut-unique 10 c.cut.result.0.now (step_line s.0 s.1) c.in_ok-rest.rest.now rest cut.1
    (Lacks-line (bounds_of c.args.shape.now) s (shape-in_range c.args.shape.now) h.readable) (sym cut.0 ∙ h.text) in
    c.in_err-agent.ensures.none s h.readable same.0)
