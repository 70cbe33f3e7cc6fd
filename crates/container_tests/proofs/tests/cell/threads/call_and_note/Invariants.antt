use Rattle.std.proofs.Common.{◌≡◌}
use Rattle.orc_cell.specs.CellCalls.{IsUsable}
use Rattle.orc_heap.specs.Domains.{agent}
use Rattle.container_tests.proofs.tests.cell.threads.call_and_note.Given as goal

-- the pass is usable, and of the same agent
abbrev pub invariant-loop-number : goal.invariant-loop-number
invariant-loop-number g l = record {
  usable : IsUsable g.L.Links l.cell.links l.p;
  same : agent g.L.Links l.cell.links l.p ≡ agent g.L.Links l.cell.links l.initial.p;
}
