use Rattle.std.proofs.Common.{ap, sym, ◌∙◌, ◌≡◌}
use Rattle.std.specs.Prelude.{Some}
use Rattle.orc_heap.proofs.Fresh.{node-after, touched}
use Rattle.orc_heap.proofs.Linked.{linked_after, side_after}
use Rattle.orc_heap.proofs.laws.once_linked_nodes_stay.Goals as goal

pub returns-clause-first : goal.returns-clause-first
returns-clause-first c = linked_after

pub returns-clause-second : goal.returns-clause-second
returns-clause-second c = λ agent act h id old node fits there linked at.
    let both : Some (touched act id old) ≡ Some node = sym (node-after agent act h id old there) ∙ at in
    let same : touched act id old ≡ node = cc in
    ap (λ n. n.side) (sym same) ∙ side_after agent act h id old fits there linked
