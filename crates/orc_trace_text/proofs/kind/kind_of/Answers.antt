use Rattle.std.proofs.Common.{arith}
use Rattle.orc_trace_text.proofs.KindWords.{no-kind}
use Rattle.orc_trace_text.proofs.kind.kind_of.Goals as goal

pub returns-clause-none : goal.returns-clause-none
returns-clause-none c = no-kind c.args.word.now (λ i lt. c.loop-kind.invariant i (omega arith))
