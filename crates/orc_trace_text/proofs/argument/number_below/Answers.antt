use Rattle.std.proofs.Common.{◌≡◌, ◌∙◌, sym, arith}
use Rattle.std.proofs.lemmas.Fmt.{decimal_injective}
use Rattle.orc_trace_text.proofs.argument.number_below.Goals as goal

pub returns-else-number-from-clause-none : goal.returns-else-number-from-clause-none
returns-else-number-from-clause-none c n below e =
    let read = c.in_ok-number.ensures.some in
    let number : c.in_ok-number.number ≡ n = decimal_injective _ n read.0 (omega arith) (sym read.1 ∙ e) in
    omega (arith, number, below)
