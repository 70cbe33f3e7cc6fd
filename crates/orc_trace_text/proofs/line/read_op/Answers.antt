use Rattle.std.specs.Option.{option_copied}
use Rattle.orc_words.specs.Bounds.{bounds_of}
use Rattle.orc_trace_text.specs.Reading.{words_left}
use Rattle.orc_trace_text.specs.declared.kind.StepKind.TheVariants as kind
use Rattle.orc_trace_text.proofs.Spelled.{spelled}
use Rattle.orc_trace_text.proofs.Words.{words-some}
use Rattle.orc_trace_text.proofs.line.read_op.Goals as goal

pub returns-in-Enroll-2-clause-none : goal.returns-in-Enroll-2-clause-none
returns-in-Enroll-2-clause-none c op h =
    let o = spelled (bounds_of c.args.shape.now) kind.Enroll (words_left (option_copied c.args.left)) op (rw c.in-Enroll-2.is at h) in
    words-some c.args.left c.if-is_none.ensures o.0
