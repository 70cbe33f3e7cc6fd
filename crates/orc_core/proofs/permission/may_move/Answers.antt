use Rattle.std.proofs.Common.{ap, rules, sym, true, ◌∙◌, ◌≡◌}
use Rattle.std.specs.Prelude.{nat_lt, not, ◌&&◌}
use Rattle.orc_words.specs.Bounds.{bounds_of}
use Rattle.orc_core.specs.RecordParts.{holds_fresh, is_empty, slot_of}
use Rattle.orc_core.specs.declared.records.SlotUse.{SlotUse}
use Rattle.orc_core.proofs.permission.may_move.Goals as goal

pub returns-then-not-is_empty : goal.returns-then-not-is_empty
returns-then-not-is_empty c =
    let d = c.args.agent.now in
    let k = c.args.slot in
    let some : nat_lt 0 k ≡ true = search rules in
    let eight : nat_lt k 8 ≡ true = search rules in
    let row : nat_lt c.args.row (bounds_of c.args.shape.now).rows ≡ true = search rules in
    let used : not (is_empty (slot_of d k)) ≡ true = search rules in
    ap not (c.holds_fresh.ensures ∙ ap (λ (s : SlotUse). holds_fresh d.fresh s) c.slot-then-not-is_empty.ensures) ∙
    sym (λ i. (((some i && eight i) && row i) && used i) && not (holds_fresh d.fresh (slot_of d k)))
