use Rattle.std.proofs.Common.{ap, rules, sym, true, ◌∙◌, ◌≡◌}
use Rattle.std.specs.Prelude.{nat_lt, ◌&&◌}
use Rattle.orc_words.specs.Bounds.{bounds_of}
use Rattle.orc_core.specs.RecordParts.{holds, names, slot_of}
use Rattle.orc_core.specs.declared.records.SlotUse.{SlotUse}
use Rattle.orc_core.proofs.permission.may_decrement.Goals as goal

pub returns-then-has_decrement : goal.returns-then-has_decrement
returns-then-has_decrement c =
    let d = c.args.agent.now in
    let r = c.args.row in
    let row : nat_lt r (bounds_of c.args.shape.now).rows ≡ true = search rules in
    let pending : names d.dec r ≡ true = search rules in
    c.holds.ensures ∙ ap (λ (s : SlotUse). holds s r) c.slot.ensures ∙ sym (λ i. (row i && pending i) && holds (slot_of d 0) r)
