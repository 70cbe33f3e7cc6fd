use Rattle.std.proofs.Common.{◌≡◌, ◌∙◌, ◌∷◌, sym, arith}
use Rattle.std.specs.Fmt.{decimal}
use Rattle.std.specs.Option.{option_copied}
use Rattle.orc_words.specs.Bounds.{bounds_of}
use Rattle.orc_trace_text.specs.Reading.{words_in}
use Rattle.orc_trace_text.specs.TraceText.{words_of}
use Rattle.orc_trace_text.proofs.Lines.{line-parts, shape-in_range}
use Rattle.orc_trace_text.proofs.Spelled.{kind_for, own}
use Rattle.orc_trace_text.proofs.Words.{text-of_words, words-cut}
use Rattle.orc_trace_text.proofs.line.step_of.Goals as goal

pub returns-in_err-agent-clause-none : goal.returns-in_err-agent-clause-none
returns-in_err-agent-clause-none c = rw c.from_residual.ensures (λ s h e.
    let parts = line-parts (bounds_of c.args.shape.now) s c.args.line.now c.cut.result.0.now (option_copied c.cut.result.1)
    (shape-in_range c.args.shape.now) h e c.cut.ensures in
    let low = h.0 in
    let agents = c.agents.ensures in
    c.in_err-agent.ensures.none s.0 (omega (arith, low, agents)) parts.0)

pub returns-in_err-word-clause-none : goal.returns-in_err-word-clause-none
returns-in_err-word-clause-none c = rw c.from_residual-in_err-word.ensures (λ s h e.
    let parts = line-parts (bounds_of c.args.shape.now) s c.args.line.now c.cut.result.0.now (option_copied c.cut.result.1)
    (shape-in_range c.args.shape.now) h e c.cut.ensures in
    let mine = own (bounds_of c.args.shape.now) s.1 h.1 in
    let bad = sym c.in_err-word.ensures.none ∙ parts.1 ∙ mine.1 in
    cc bad)

pub returns-in_err-kind-clause-none : goal.returns-in_err-kind-clause-none
returns-in_err-kind-clause-none c = rw c.from_residual-in_err-kind.ensures (λ s h e.
    let parts = line-parts (bounds_of c.args.shape.now) s c.args.line.now c.cut.result.0.now (option_copied c.cut.result.1)
    (shape-in_range c.args.shape.now) h e c.cut.ensures in
    let mine = own (bounds_of c.args.shape.now) s.1 h.1 in
    let both = sym c.in_ok-word.ensures.some ∙ parts.1 ∙ mine.1 in
    c.in_err-kind.ensures.none (kind_for s.1) (cc both))

pub returns-in_err-op-clause-none : goal.returns-in_err-op-clause-none
returns-in_err-op-clause-none c = rw c.from_residual-in_err-op.ensures (λ s h e.
    let parts = line-parts (bounds_of c.args.shape.now) s c.args.line.now c.cut.result.0.now (option_copied c.cut.result.1)
    (shape-in_range c.args.shape.now) h e c.cut.ensures in
    let both = sym parts.1 ∙ c.in_ok-word.ensures.some in
    let word = c.in_ok-kind.ensures.some in
    c.in_err-op.ensures.none s.1 (h.1, cc (both, word)))

pub returns-clause-some : goal.returns-clause-some
returns-clause-some c =
    let cut = words-cut c.args.line.now c.cut.result.0.now (option_copied c.cut.result.1) c.cut.ensures in
    let agent = c.in_ok-agent.ensures.some in
    let left = c.in_ok-word.ensures.some in
    let word = c.in_ok-kind.ensures.some in
    let op = c.in_ok-op.ensures.some in
    let words : words_in c.args.line.now ≡ decimal c.in_ok-agent.agent ∷ words_of c.in_ok-op.op = cc (cut, agent.1, left, word, op.1) in (
      ((let low = agent.0 in let agents = c.agents.ensures in omega (arith, low, agents)), op.0),
      text-of_words c.args.line.now (decimal c.in_ok-agent.agent ∷ words_of c.in_ok-op.op) words,
    )
