use Rattle.std.proofs.Common.{◌∙◌, subst, sym}
use Rattle.orc_trace_text.specs.TraceText.{IsShapeText}
use Rattle.orc_trace_text.proofs.Lines.{Lacks-shape}
use Rattle.orc_trace_text.proofs.Words.{cut-none, cut-unique}
use Rattle.orc_trace_text.proofs.shape_line.read_shape.Goals as goal

pub returns-in_default-clause-err : goal.returns-in_default-clause-err
returns-in_default-clause-err c b rest h =
    let cut = rw c.in_default.is at c.cut.ensures in
    cut-none 10 c.cut.result.0.now h.line rest cut.1 (sym cut.0 ∙ h.text)

pub returns-in_default-read_numbers-clause-err : goal.returns-in_default-read_numbers-clause-err
returns-in_default-read_numbers-clause-err c b rest h =
    let cut = rw c.in-Some.is at c.cut.ensures in
    let same = cut-unique 10 c.cut.result.0.now h.line c.in-Some.lines.now rest cut.1 (Lacks-shape b h.line h.wide h.spells) (sym cut.0 ∙ h.text) in
    c.in_default-read_numbers.ensures.none b h.wide (subst (IsShapeText b) (sym same.0) h.spells)
