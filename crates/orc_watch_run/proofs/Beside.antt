-- What a worker did, beside the agents of its run, from the beginning of the journal, and with what its pass learned.
use Rattle.std.proofs.Common.{◌≡◌, ℕ, List, [], ◌++◌, ap, length, map, refl, sym, ◌∙◌}
use mathlib.Core.List.{IsPrefix}
use Rattle.std.specs.List.{AllByRecursion}
use Rattle.orc_board.proofs.Shares.{Did-just, DidAll-before, DidAll-more}
use Rattle.orc_board.proofs.Wholes.{Below, DidAll-beside}
use Rattle.orc_board.specs.Follows.{own_records}
use Rattle.orc_board.specs.Stretches.{Stretch, View, beside}
use Rattle.orc_cell.specs.declared.refused.CellRefused.{CellRefused}
use Rattle.orc_history.specs.Journals.{own_of}
use Rattle.orc_pairs_rule.specs.CellHistory.{agent_of_entry}
use Rattle.orc_pairs_rule.specs.declared.entry.CellEntry.{CellEntry}
use Rattle.orc_watch.specs.declared.line.WatchLine.{WatchLine}
use Rattle.orc_watch.specs.declared.reply.WatchReply.{WatchReply}
use Rattle.orc_watch_run.specs.CameBack.{IsTold}
use Rattle.orc_watch_run.specs.CellView.{of_cell}
use Rattle.orc_watch_run.specs.Follows.{CellShare, Watching}
use Rattle.orc_team.proofs.Learned.{Grows, learned_stretch}

-- the journal at the start, whose history is empty
pub start : {A : Type 0} (x : View A CellEntry CellRefused) (agent : ℕ) (j : List A) → x.history [] ≡ [] → x.history j ≡ [] → Stretch of_cell x agent [] [] j
start x agent j none new = record { later = (j, refl); part = []; is = new ∙ sym (ap (λ z. z ++ []) none); own_is = refl; others = tt }

-- told from the beginning
pub told_first : {A : Type 0} (x : View A CellEntry CellRefused) (C : ℕ → Type 0) (lines : List WatchLine) (workers agent : ℕ) (replies : List WatchReply)
    (j k : List A) → Below x.crowd C → x.history [] ≡ [] → x.history j ≡ [] → Watching x lines agent replies j k
    → map (λ (r : WatchReply). r.line) replies ≡ own_records workers agent (length lines) → IsTold (beside x C) lines workers agent replies k
told_first x C lines workers agent replies j k few none new w order = record {
  watched = record {
    shares = w.shares;
    table = w.table;
    did = DidAll-before of_cell (beside x C) agent (λ (share : CellShare). share) w.shares [] j k (start (beside x C) agent j none new)
        (DidAll-beside of_cell x C few agent (λ (share : CellShare). share) w.shares j k w.did);
  };
  in_file_order = order;
}

-- and so where its pass has learned
pub told_more : {A : Type 0} (x : View A CellEntry CellRefused) (C : ℕ → Type 0) (lines : List WatchLine) (workers agent : ℕ) (replies : List WatchReply)
    (j k : List A) → Grows x.history → IsPrefix j k
    → own_of agent_of_entry agent (x.history k) ≡ own_of agent_of_entry agent (x.history j) → AllByRecursion (λ e. C (agent_of_entry e)) (x.history k)
    → IsTold (beside x C) lines workers agent replies j → IsTold (beside x C) lines workers agent replies k
told_more x C lines workers agent replies j k grows later own below t = record {
  watched = record {
    shares = t.watched.shares;
    table = t.watched.table;
    did = DidAll-more of_cell (beside x C) agent (λ (share : CellShare). share) t.watched.shares [] j k t.watched.did
        (Did-just of_cell (beside x C) agent [] j k (learned_stretch of_cell x C agent j k (λ es none. none) grows later own below));
  };
  in_file_order = t.in_file_order;
}
