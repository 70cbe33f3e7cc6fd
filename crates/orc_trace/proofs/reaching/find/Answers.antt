use Rattle.std.proofs.Common.{false, rules, sym, ◌/◌, ◌<◌, ◌≡◌, ◌∙◌}
use Rattle.std.specs.Prelude.{None}
use Rattle.orc_words.specs.Packed.{named}
use Rattle.orc_trace.specs.Reaching.{is_marked}
use Rattle.orc_trace.proofs.Reached.{named_linked, named_none, one_found}
use Rattle.orc_trace.proofs.reaching.find.Goals as goal

pub returns-in-Some-clause-found : goal.returns-in-Some-clause-found
returns-in-Some-clause-found c =
    let m = c.args.state.now in
    let below : c.in-Some.row < m.bounds.rows = search rules in
    let none : is_marked c.args.marks.now c.in-Some.row ≡ false = search rules in
    one_found m c.args.marks.now c.args.found.now c.args.count c.in-Some.row c.requires.found below none
    (named_linked m c.args.word c.in-Some.row (sym c.named.ensures ∙ c.in-Some.is) c.requires.reached)

pub returns-in_default-3-clause-target : goal.returns-in_default-3-clause-target
returns-in_default-3-clause-target c =
    let none : named (c.args.word / 2) ≡ None = search rules in
    named_none c.args.marks.now c.args.word c.args.state.now.bounds.rows c.shape.ensures.whole.shape.rows.1 none
