use Rattle.std.proofs.Common.{◌∙◌, sym}
use Rattle.orc_trace_text.proofs.Words.{words-some}
use Rattle.orc_trace_text.proofs.cut.one_word.Goals as goal

pub returns-else-is_none-clause-none : goal.returns-else-is_none-clause-none
returns-else-is_none-clause-none c word e =
    let both = sym c.in_ok-word.ensures.some ∙ e in
    words-some c.in_ok-word.left c.if-is_none.ensures (cc both)
