use Rattle.std.proofs.Common.{◌≡◌, ℕ, ◌<◌, false}
use Rattle.std.specs.Prelude.{◌||◌, slice_index_or}
use Rattle.orc_core.specs.Counts.{some_links_to}
use Rattle.orc_core.proofs.counting.mark_row.Given as goal

abbrev pub invariant-loop-number : goal.invariant-loop-number
invariant-loop-number l = (r : ℕ) → r < 65535
    → slice_index_or l.marked r false ≡ (slice_index_or l.fn.marked r false || some_links_to l.state l.row r l.number)
