use Rattle.std.proofs.Common.{inl, inr}
use Rattle.std.specs.Fmt.{decimal}
use Rattle.orc_trace_text.proofs.Words.{words-some}
use Rattle.orc_trace_text.proofs.shape_line.links_of.Goals as goal

pub returns-in_err-word-clause-none : goal.returns-in_err-word-clause-none
returns-in_err-word-clause-none c = rw c.from_residual.ensures (λ links wide ends. elim ends [
  | inl e ↦ c.in_err-word.ensures.none (decimal links) e
  | inr e ↦ words-some c.args.left c.if-is_none.ensures e.1
])
