use Rattle.std.proofs.Common.{ap, arith, ℕ, ◌∙◌, ◌≡◌}
use Rattle.std.specs.Prelude.{Bool, ◌&&◌}
use Rattle.orc_words.specs.Places.{link_at}
use Rattle.orc_core.proofs.Counted.{count_all, counted}
use Rattle.orc_core.specs.Counts.{is_out, links_to}
use Rattle.orc_core.specs.Machine.{word_in}
use Rattle.orc_sound.proofs.counting.linked_from.Goals as goal

pub returns-clause-count : goal.returns-clause-count
returns-clause-count c =
    let m = c.args.state.now in
    let low = c.loop-number-test.false in
    let high = c.loop-number.auto.number-end in
    let all : c.loop-number.number ≡ m.bounds.links = grind arith in
    let by : ℕ → Bool = λ n. is_out m c.args.from && links_to (word_in m (link_at n c.args.from)) c.args.row in
    c.loop-number.invariant.so_far ∙ ap (λ n. counted n by) all ∙ count_all m.bounds.links by
