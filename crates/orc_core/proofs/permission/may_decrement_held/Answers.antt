use Rattle.std.proofs.Common.{rules, sym, true, ◌∙◌, ◌≡◌}
use Rattle.std.specs.Prelude.{nat_lt, ◌&&◌}
use Rattle.orc_words.specs.Bounds.{bounds_of}
use Rattle.orc_core.specs.RecordParts.{any_holds, names}
use Rattle.orc_core.proofs.permission.may_decrement_held.Goals as goal

pub returns-then-has_decrement : goal.returns-then-has_decrement
returns-then-has_decrement c =
    let d = c.args.agent.now in
    let r = c.args.row in
    let row : nat_lt r (bounds_of c.args.shape.now).rows ≡ true = search rules in
    let pending : names d.dec r ≡ true = search rules in
    c.holds.ensures ∙ sym (λ i. (row i && pending i) && any_holds d.slots r)
