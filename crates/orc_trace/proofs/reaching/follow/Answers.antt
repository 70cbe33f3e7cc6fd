use Rattle.std.proofs.Common.{ap, arith, rules, subst, true, ℕ, ◌<◌, ◌≡◌, ◌≤◌, ◌∙◌}
use Rattle.orc_core.specs.Counts.{links_to}
use Rattle.orc_core.specs.Machine.{word_in}
use Rattle.orc_trace.proofs.Reached.{one_further}
use Rattle.orc_trace.proofs.reaching.follow.Goals as goal

pub find-count-requires-clause-reached : goal.find-count-requires-clause-reached
find-count-requires-clause-reached c r e =
    let m = c.args.state.now in
    let below : c.loop-number.number < m.bounds.links = search rules in
    let word = c.word-word.ensures ∙ ap (word_in m) c.link_of_row.ensures in
    one_further m c.loop-number.number c.args.row r (c.requires.found.reached c.args.row c.requires.marked) c.requires.row below
    (subst (λ (w : ℕ). links_to w r ≡ true) word e)

pub returns-clause-links : goal.returns-clause-links
returns-clause-links c =
    let end : c.args.state.now.bounds.links ≤ c.loop-number.number = search rules in
    λ n r below. c.loop-number.invariant.links n r (omega (arith, below, end))
