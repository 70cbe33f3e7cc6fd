use Rattle.std.proofs.Common.{◌≡◌, ℕ, ◌<◌, false}
use Rattle.std.specs.Prelude.{◌&&◌, ◌||◌, slice_index_or}
use Rattle.orc_core.specs.Sums.{some_below}
use Rattle.orc_core.specs.Counts.{is_out, some_links_to}
use Rattle.orc_core.proofs.counting.mark_rows.Given as goal

abbrev pub invariant-loop-row : goal.invariant-loop-row
invariant-loop-row l = (r : ℕ) → r < 65535
    → slice_index_or l.marked r false ≡
    (slice_index_or l.fn.marked r false || some_below l.row (λ j. is_out l.state j && some_links_to l.state j r l.state.bounds.links))
