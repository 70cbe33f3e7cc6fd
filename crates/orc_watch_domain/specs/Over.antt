-- What a watch over any domain leaves: the cell's domain at rest, whose passes had seen a journal that the replies follow.
use Rattle.std.specs.Prelude.{◌+◌, List, ℕ}
use Rattle.orc_words.specs.Bounds.{Bounds}
use Rattle.orc_heap.specs.declared.links.Links.{Ghosts as LinksOf}
use Rattle.orc_pairs_rule.specs.declared.pairs.PairsNote.{PairsNote}
use Rattle.orc_watch.specs.declared.line.WatchLine.{WatchLine}
use Rattle.orc_watch_run.specs.CellView.{cell_view}
use Rattle.orc_watch_run.specs.Follows.{WatchRepliesFollow}
use Rattle.orc_at_rest.specs.Domains.{IsLeftOf, IsMadeSo, empty_seed}
use Rattle.orc_watch_domain.specs.Cells.{cell_bounds}
use Rattle.orc_watch_domain.specs.declared.over.Left.{Left}

-- this was left of the domain of the cell, whose passes had all seen one journal, and the replies and both parts that the caller read at
-- last follow it
pub record WatchedOver {L D P S R : Type 0} (members : LinksOf L D P S PairsNote) (bounds : L → Bounds) (rests : L → List P → R → Type 0)
    (lines : List WatchLine) (workers rows : ℕ) (f : Left R) : Type 0 where
  pub domain : L
  pub made : IsMadeSo members bounds (cell_bounds rows (1 + workers)) empty_seed domain
  pub seen : List S
  pub left : IsLeftOf members rests domain seen f.cell
  pub follow : WatchRepliesFollow (cell_view members domain) lines workers f.replies.items f.now_left f.now_right seen
