use Rattle.std.proofs.Common.{◌≡◌, ◌∙◌, ◌∷◌, refl, sym}
use Rattle.std.specs.Fmt.{decimal}
use Rattle.std.specs.Option.{option_copied}
use Rattle.orc_words.specs.Bounds.{Bounds}
use Rattle.orc_trace_text.specs.Reading.{words_in, words_left}
use Rattle.orc_trace_text.proofs.Lines.{shape-parts, shape-spelled, shape_words}
use Rattle.orc_trace_text.proofs.Words.{text-of_words, words-cut}
use Rattle.orc_trace_text.proofs.shape_line.read_numbers.Goals as goal

pub returns-then-not-is_the_word-clause-none : goal.returns-then-not-is_the_word-clause-none
returns-then-not-is_the_word-clause-none c b wide h =
    let parts = shape-parts b c.args.line.now c.cut.result.0.now (option_copied c.cut.result.1) wide h c.cut.ensures in
    c.if-not-is_the_word.ensures.other refl parts.2

pub returns-in_err-rows-clause-none : goal.returns-in_err-rows-clause-none
returns-in_err-rows-clause-none c = rw c.from_residual.ensures (λ b wide h.
    let (last, _, _, words) = shape-parts b c.args.line.now c.cut.result.0.now (option_copied c.cut.result.1) wide h c.cut.ensures in
    c.in_err-rows.ensures.none b.rows (decimal b.roots ∷ decimal b.agents ∷ decimal b.limit ∷ last) wide.rows words)

pub returns-in_err-roots-clause-none : goal.returns-in_err-roots-clause-none
returns-in_err-roots-clause-none c = rw c.from_residual-in_err-roots.ensures (λ b wide h.
    let (last, _, _, words) = shape-parts b c.args.line.now c.cut.result.0.now (option_copied c.cut.result.1) wide h c.cut.ensures in
    let rows = sym c.in_ok-rows.ensures.some.1 ∙ words in
    c.in_err-roots.ensures.none b.roots (decimal b.agents ∷ decimal b.limit ∷ last) wide.roots (cc rows))

pub returns-in_err-agents-clause-none : goal.returns-in_err-agents-clause-none
returns-in_err-agents-clause-none c = rw c.from_residual-in_err-agents.ensures (λ b wide h.
    let (last, _, _, words) = shape-parts b c.args.line.now c.cut.result.0.now (option_copied c.cut.result.1) wide h c.cut.ensures in
    let rows = sym c.in_ok-rows.ensures.some.1 ∙ words in
    let roots = c.in_ok-roots.ensures.some.1 in
    c.in_err-agents.ensures.none b.agents (decimal b.limit ∷ last) wide.agents (cc (rows, roots)))

pub returns-in_err-limit-clause-none : goal.returns-in_err-limit-clause-none
returns-in_err-limit-clause-none c = rw c.from_residual-in_err-limit.ensures (λ b wide h.
    let (last, _, _, words) = shape-parts b c.args.line.now c.cut.result.0.now (option_copied c.cut.result.1) wide h c.cut.ensures in
    let rows = sym c.in_ok-rows.ensures.some.1 ∙ words in
    let roots = c.in_ok-roots.ensures.some.1 in
    let agents = c.in_ok-agents.ensures.some.1 in
    c.in_err-limit.ensures.none b.limit last wide.limit (cc (rows, roots, agents)))

pub returns-in_err-links-clause-none : goal.returns-in_err-links-clause-none
returns-in_err-links-clause-none c = rw c.from_residual-in_err-links.ensures (λ b wide h.
    let (last, ends, _, words) = shape-parts b c.args.line.now c.cut.result.0.now (option_copied c.cut.result.1) wide h c.cut.ensures in
    let rows = sym c.in_ok-rows.ensures.some.1 ∙ words in
    let roots = c.in_ok-roots.ensures.some.1 in
    let agents = c.in_ok-agents.ensures.some.1 in
    let limit = c.in_ok-limit.ensures.some.1 in
    let behind : last ≡ words_left (option_copied c.in_ok-limit.left) = cc (rows, roots, agents, limit) in
    c.in_err-links.ensures.none b.links wide.links (rw behind at ends))

pub returns-clause-some : goal.returns-clause-some
returns-clause-some c =
    let cut = words-cut c.args.line.now c.cut.result.0.now (option_copied c.cut.result.1) c.cut.ensures in
    let name = c.if-not-is_the_word.ensures.same refl in
    let rows = c.in_ok-rows.ensures.some in
    let roots = c.in_ok-roots.ensures.some in
    let agents = c.in_ok-agents.ensures.some in
    let limit = c.in_ok-limit.ensures.some in
    let links = c.in_ok-links.ensures.some in
    let b : Bounds = record {
      rows = c.in_ok-rows.rows;
      roots = c.in_ok-roots.roots;
      agents = c.in_ok-agents.agents;
      limit = c.in_ok-limit.limit;
      links = c.in_ok-links.links;
    } in
    let last = words_left (option_copied c.in_ok-limit.left) in
    let words : words_in c.args.line.now ≡ shape_words b last = cc (cut, name, rows.1, roots.1, agents.1, limit.1) in (
      record { rows = rows.0; roots = roots.0; agents = agents.0; limit = limit.0; links = links.0 },
      shape-spelled b c.args.line.now last links.1 (text-of_words c.args.line.now (shape_words b last) words),
    )
