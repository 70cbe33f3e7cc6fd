use Rattle.std.proofs.Common.{◌∙◌, sym, inl, inr}
use Rattle.std.specs.Option.{option_copied}
use Rattle.orc_words.specs.Bounds.{bounds_of}
use Rattle.orc_trace_text.specs.Reading.{words_left}
use Rattle.orc_trace_text.specs.declared.kind.StepKind.TheVariants as kind
use Rattle.orc_trace_text.proofs.Spelled.{spelled}
use Rattle.orc_trace_text.proofs.Words.{words-some}
use Rattle.orc_trace_text.proofs.line.read_load.Goals as goal

pub returns-in_err-slot-clause-none : goal.returns-in_err-slot-clause-none
returns-in_err-slot-clause-none c = rw c.from_residual-in_err-slot.ensures (λ op h.
    let o = spelled (bounds_of c.args.shape.now) kind.Load (words_left (option_copied c.args.left)) op h in
    elim o.2 [
      | inl short ↦ let both = sym c.in_ok-place.ensures.some ∙ short.0 in words-some c.in_ok-place.left c.if-is_none.ensures (cc both)
      | inr long ↦ let both = sym c.in_ok-place.ensures.some ∙ long.2 in c.in_err-slot.ensures.none long.0 long.1 (cc both)
    ])
