-- Replies follow the history of a cell: each worker's own entries are those that its replies stand for, and the caller's read is the
-- last entry.
use Rattle.std.specs.Prelude.{◌≡◌, ◌≢◌, ℕ, suc, ◌≤◌, List, [], ◌∷◌, ◌++◌, filter, length, map, ◌==◌, None, Option, Some, slice_get}
use Rattle.std.specs.List.{AllByRecursion}
use Rattle.orc_fault.specs.declared.Spent.{Spent as SpentRow}
use Rattle.orc_history.specs.Lists.{Pairwise}
use Rattle.orc_board.specs.Follows.{grouped_by_key, own_records}
use Rattle.orc_board.specs.Stretches.{DidAll, Did, Share, View, beside, just, refusal}
use Rattle.orc_cell.specs.declared.refused.CellRefused.{CellRefused}
use Rattle.orc_cell.specs.declared.refused.CellRefused.TheVariants as refused
use Rattle.orc_pairs_rule.specs.CellHistory.{IsLegalCell, agent_of_entry}
use Rattle.orc_pairs_rule.specs.declared.entry.CellEntry.{CellEntry}
use Rattle.orc_pairs_rule.specs.declared.entry.CellEntry.TheVariants.{Published, Seen}
use Rattle.orc_watch.specs.declared.line.WatchLine.{WatchLine}
use Rattle.orc_watch.specs.declared.line.WatchLine.TheVariants as line
use Rattle.orc_watch.specs.declared.reply.WatchReply.{WatchReply}
use Rattle.orc_watch.specs.declared.reply.WatchWord.{WatchWord}
use Rattle.orc_watch.specs.declared.reply.WatchWord.TheVariants as word
use Rattle.orc_watch_run.specs.CellView.{of_cell}

-- what a worker did in the cell is told by shares: its own entries, or a refusal
abbrev pub CellShare : Type 0
CellShare = Share CellEntry CellRefused

-- the line asks to publish these parts, and keep one that isn't given
abbrev pub AsksToPublish : WatchLine → Option ℕ → Option ℕ → Type 0
AsksToPublish (line.Left value) left right = (left ≡ Some value) × (right ≡ None)
AsksToPublish (line.Right value) left right = (left ≡ None) × (right ≡ Some value)
AsksToPublish (line.Both first second) left right = (left ≡ Some first) × (right ≡ Some second)
AsksToPublish line.See left right = ⊥

-- the line asks to publish these parts, and both parts are these since
pub record IsPublishedByLine (agent : ℕ) (line : WatchLine) (x y : ℕ) (share : CellShare) : Type 0 where
  pub left : Option ℕ
  pub right : Option ℕ
  pub asks : AsksToPublish line left right
  pub is : share ≡ just (Published agent left right x y ∷ [])

-- the line asks to publish, which was refused for this cause
pub record IsRefusedPublish (line : WatchLine) (why : CellRefused) (share : CellShare) : Type 0 where
  pub left : Option ℕ
  pub right : Option ℕ
  pub asks : AsksToPublish line left right
  pub is : share ≡ refusal why

-- what the reply to a line says of the cell
abbrev pub IsAnswer : ℕ → WatchLine → WatchWord → CellShare → Type 0
IsAnswer agent l (word.Set x y) share = IsPublishedByLine agent l x y share
IsAnswer agent l (word.Saw x y) share = (l ≡ line.See) × (share ≡ just (Seen agent x y ∷ []))
IsAnswer agent l word.NoNode share = IsRefusedPublish l refused.NoNode share
IsAnswer agent l word.Spent share = (why : SpentRow) × IsRefusedPublish l (refused.Spent why) share

-- what an agent did with a line between these journals
pub record DidLine {A : Type 0} (x : View A CellEntry CellRefused) (agent : ℕ) (line : WatchLine) (what : WatchWord) (j k : List A) : Type 0 where
  pub share : CellShare
  pub is : IsAnswer agent line what share
  pub did : Did of_cell x agent share j k

-- the share is that of this worker's reply to its line
pub record IsReplyShare (lines : List WatchLine) (worker : ℕ) (r : WatchReply) (share : CellShare) : Type 0 where
  pub worker_is : r.worker ≡ worker
  pub line : WatchLine
  pub at : slice_get lines r.line ≡ Some line
  pub is : IsAnswer worker line r.what share

-- from the journal j to k these shares of an agent stand one after another
abbrev pub DidShares : {A : Type 0} → View A CellEntry CellRefused → ℕ → List CellShare → List A → List A → Type 0
DidShares x agent shares j k = DidAll of_cell x agent (λ (share : CellShare). share) shares j k

-- what a worker did between these journals is what these replies stand for, in their order
pub record Watching {A : Type 0} (x : View A CellEntry CellRefused) (lines : List WatchLine) (worker : ℕ) (replies : List WatchReply) (j k : List A)
    : Type 0 where
  pub shares : List CellShare
  pub table : Pairwise (IsReplyShare lines worker) replies shares
  pub did : DidShares x worker shares j k

-- the agents of a run
abbrev pub IsInRun : ℕ → ℕ → Type 0
IsInRun workers agent = agent ≤ workers

-- the replies of this worker, in their order
abbrev pub replies_of : ℕ → List WatchReply → List WatchReply
replies_of worker replies = filter (λ (r : WatchReply). r.worker == worker) replies

-- the replies of workers 1 to N, of each one for each of its records, in file order
pub record AreInOrder (lines : List WatchLine) (workers : ℕ) (replies : List WatchReply) : Type 0 where
  pub by_worker : replies ≡ grouped_by_key (λ (r : WatchReply). r.worker) (suc workers) replies
  pub none_of_zero : AllByRecursion (λ (r : WatchReply). 1 ≤ r.worker) replies
  pub in_file_order : (w : ℕ) → 1 ≤ w → w ≤ workers → map (λ (r : WatchReply). r.line) (replies_of w replies) ≡ own_records workers w (length lines)

-- agent 0 read these parts at last, which is its only entry
pub record EndsWithRead (history : List CellEntry) (x y : ℕ) : Type 0 where
  pub front : List CellEntry
  pub is : history ≡ front ++ Seen 0 x y ∷ []
  pub others : AllByRecursion (λ e. agent_of_entry e ≢ 0) front

-- the replies, and the two parts that the caller read at last, follow this journal: each worker did what its replies stand for, beside
-- no agent but those of the run
pub record WatchRepliesFollow {A : Type 0} (x : View A CellEntry CellRefused) (lines : List WatchLine) (workers : ℕ) (replies : List WatchReply)
    (now_left now_right : ℕ) (k : List A) : Type 0 where
  pub legal : IsLegalCell (x.history k)
  pub order : AreInOrder lines workers replies
  pub watching : (w : ℕ) → 1 ≤ w → w ≤ workers → Watching (beside x (IsInRun workers)) lines w (replies_of w replies) [] k
  pub last : EndsWithRead (x.history k) now_left now_right
