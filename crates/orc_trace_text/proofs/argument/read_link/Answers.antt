use Rattle.std.specs.Option.{option_copied}
use Rattle.std.proofs.Common.{Some, sym, ◌∙◌}
use Rattle.orc_words.specs.Bounds.{bounds_of}
use Rattle.orc_trace_text.proofs.Arguments.{behind-empty, link-cut}
use Rattle.orc_trace_text.proofs.Lines.{shape-in_range}
use Rattle.orc_trace_text.proofs.argument.read_link.Goals as goal

pub returns-in_err-to-clause-none : goal.returns-in_err-to-clause-none
returns-in_err-to-clause-none c = rw c.from_residual.ensures (λ link h e.
    let parts = link-cut (bounds_of c.args.shape.now) link c.args.text.now c.cut.result.0.now (option_copied c.cut.result.1)
    (shape-in_range c.args.shape.now) h e c.cut.ensures in
    c.in_err-to.ensures.none link.to h parts.0)

pub returns-in-Some-2-clause-none : goal.returns-in-Some-2-clause-none
returns-in-Some-2-clause-none c link h e =
    let parts = link-cut (bounds_of c.args.shape.now) link c.args.text.now c.cut.result.0.now (Some c.in-Some.rest.now)
    (shape-in_range c.args.shape.now) h e (rw c.in-Some.is at c.cut.ensures) in
    behind-empty link.mark c.in-Some.rest.now parts.1 (sym c.is_empty.ensures ∙ c.if-is_empty.false)
