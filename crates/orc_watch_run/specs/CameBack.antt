-- What the caller and its workers have come to at the end of a run.
use Rattle.std.specs.Prelude.{List, [], length, map, ℕ, ◌≡◌}
use Rattle.std.specs.List.{AllByRecursion}
use Rattle.orc_board.specs.Follows.{own_records}
use Rattle.orc_board.specs.Stretches.{View, beside}
use Rattle.orc_cell.specs.CellCalls.{history}
use Rattle.orc_cell.specs.declared.refused.CellRefused.{CellRefused}
use Rattle.orc_heap.specs.declared.links.Links.{Ghosts as LinksOf}
use Rattle.orc_pairs_rule.specs.CellHistory.{IsLegalCell}
use Rattle.orc_pairs_rule.specs.declared.entry.CellEntry.{CellEntry}
use Rattle.orc_pairs_rule.specs.declared.pairs.PairsNote.{PairsNote}
use Rattle.orc_watch.specs.declared.line.WatchLine.{WatchLine}
use Rattle.orc_watch.specs.declared.reply.WatchReply.{WatchReply}
use Rattle.orc_watch_run.specs.CellView.{cell_view}
use Rattle.orc_watch_run.specs.Follows.{EndsWithRead, IsInRun, Watching}
use Rattle.orc_watch_run.specs.Passes.{AreUsable, HaveSeen, IsUsablePassOf}
use Rattle.orc_watch_run.specs.Team.{Watcher}
use Rattle.orc_team.specs.Seats.{AreNumbered}

-- what a worker did, as this journal tells of it from its beginning
pub record IsTold {A : Type 0} (x : View A CellEntry CellRefused) (lines : List WatchLine) (workers agent : ℕ) (replies : List WatchReply) (k : List A)
    : Type 0 where
  pub watched : Watching x lines agent replies [] k
  pub in_file_order : map (λ (r : WatchReply). r.line) replies ≡ own_records workers agent (length lines)

module _ {L D P S : Type 0} (members : LinksOf L D P S PairsNote) (links : L) where
  -- a worker's pass has seen no entry
  abbrev pub IsNew : Watcher P → Type 0
  IsNew w = history members links w.desk ≡ []

  -- what the caller and the workers have come to
  pub record AllCameBack (lines : List WatchLine) (workers : ℕ) (p : P) (left right : ℕ) (ws : List (Watcher P)) : Type 0 where
    pub caller : IsUsablePassOf members links 0 p
    pub numbered : AreNumbered 1 ws
    pub many : length ws ≡ workers
    pub usable : AreUsable members links 1 (map (λ (w : Watcher P). w.desk) ws)
    pub seen : HaveSeen members links (members.journal p) (map (λ (w : Watcher P). w.desk) ws)
    pub told : AllByRecursion
        (λ w. IsTold (beside (cell_view members links) (IsInRun workers)) lines workers w.agent w.replies.items (members.journal p)) ws
    pub legal : IsLegalCell (history members links p)
    pub last : EndsWithRead (history members links p) left right
