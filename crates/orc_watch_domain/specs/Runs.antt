-- What a watch leaves: the one journal of its cell, and replies that follow it.
use Rattle.std.specs.Prelude.{List, ℕ, ◌+◌}
use Rattle.orc_at_rest.specs.Domains.{empty_seed}
use Rattle.orc_at_rest.specs.Journals.{EndsWithoutLeak, HasJournal, ReusesRowsSafely}
use Rattle.orc_pairs_rule.specs.PairsDiscipline.{PairsMay}
use Rattle.orc_domain.specs.Rest.{rest_journal}
use Rattle.orc_watch.specs.declared.line.WatchLine.{WatchLine}
use Rattle.orc_watch_domain.specs.Cells.{cell_bounds, cell_over}
use Rattle.orc_watch_domain.specs.declared.watch.WatchFinished.{WatchFinished}
use Rattle.orc_watch_run.specs.Follows.{WatchRepliesFollow}
use Rattle.orc_words.specs.Bounds.{Bounds}

-- the sizes of the cell's domain in a watch of so many workers, beside whom the caller is an agent, with so many rows
abbrev pub watch_bounds : ℕ → ℕ → Bounds
watch_bounds workers rows = cell_bounds rows (1 + workers)

-- So many workers worked through these lines over a cell of so many rows. The journal that was left is the actual one of the cell's
-- domain. The replies, and both parts that the caller read at last, follow it: the cell's history is that of one pair of numbers, each
-- worker's own entries are those that its replies stand for, in file order, and the caller's read is the last entry. No row was used
-- again while it was linked or held, nor twice; and at the end what was given was freed or is linked.
pub record WatchedThrough (lines : List WatchLine) (workers rows : ℕ) (f : WatchFinished) : Type 0 where
  pub journal : HasJournal PairsMay (watch_bounds workers rows) empty_seed f.cell
  pub replies : WatchRepliesFollow (cell_over (watch_bounds workers rows)) lines workers f.replies.items f.now_left f.now_right (rest_journal f.cell)
  pub reuse : ReusesRowsSafely (watch_bounds workers rows) f.cell
  pub rest : EndsWithoutLeak (watch_bounds workers rows) f.cell
