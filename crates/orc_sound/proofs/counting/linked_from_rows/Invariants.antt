use Rattle.std.proofs.Common.{◌*◌, ◌≡◌, ◌≤◌}
use Rattle.orc_core.proofs.Counted.{summed}
use Rattle.orc_sound.specs.Linked.{linked_from}
use Rattle.orc_sound.proofs.counting.linked_from_rows.Given as goal

abbrev pub invariant-loop-from : goal.invariant-loop-from
invariant-loop-from l = record { so_far : l.count ≡ summed l.from (linked_from l.state l.row); small : l.count ≤ 2 * l.from }
