-- What a worker's replies stand for grows reply by reply.
use Rattle.std.proofs.Common.{◌≡◌, ℕ, List, [], ◌∷◌, ◌++◌, Option, Some, ap, refl, slice_get, subst, ◌∙◌}
use Rattle.orc_board.specs.Stretches.{Stretch, View, just}
use Rattle.orc_board.proofs.Shares.{Did-just, Did-nothing, DidAll-snoc}
use Rattle.orc_board.proofs.Workers.{Pairwise-snoc}
use Rattle.orc_cell.specs.declared.refused.CellRefused.{CellRefused}
use Rattle.orc_pairs_rule.specs.declared.entry.CellEntry.{CellEntry}
use Rattle.orc_pairs_rule.specs.declared.entry.CellEntry.TheVariants.{Published}
use Rattle.orc_watch.specs.declared.line.WatchLine.{WatchLine}
use Rattle.orc_watch.specs.declared.reply.WatchReply.{WatchReply}
use Rattle.orc_watch.specs.declared.reply.WatchWord.TheVariants as word
use Rattle.orc_watch_run.specs.CellView.{of_cell}
use Rattle.orc_watch_run.specs.Follows.{DidLine, AsksToPublish, CellShare, IsReplyShare, Watching}

pub watching_none : {A : Type 0} (x : View A CellEntry CellRefused) (lines : List WatchLine) (worker : ℕ) (replies : List WatchReply) (j : List A)
    → replies ≡ [] → Watching x lines worker replies j j
watching_none x lines worker replies j e = record { shares = []; table = rw e tt; did = Did-nothing of_cell x worker j }

pub watching_more : {A : Type 0} (x : View A CellEntry CellRefused) (lines : List WatchLine) (worker now index : ℕ) (l : WatchLine)
    (replies : List WatchReply) (r : WatchReply) (i j k : List A)
    → Watching x lines worker replies i j → now ≡ worker → r.worker ≡ worker → r.line ≡ index → slice_get lines index ≡ Some l
    → DidLine x now l r.what j k → Watching x lines worker (replies ++ r ∷ []) i k
watching_more x lines worker now index l replies r i j k w e worker_is line_is at done0 =
    let done : DidLine x worker l r.what j k = subst (λ (a : ℕ). DidLine x a l r.what j k) e done0 in
    record {
      shares = w.shares ++ done.share ∷ [];
      table = Pairwise-snoc (IsReplyShare lines worker) replies w.shares r done.share w.table
          (record { worker_is = worker_is; line = l; at = ap (slice_get lines) line_is ∙ at; is = done.is });
      did = DidAll-snoc of_cell x worker (λ (share : CellShare). share) w.shares done.share i j k w.did done.did;
    }

-- what came of a publish
pub was_set : {A : Type 0} (x : View A CellEntry CellRefused) (agent : ℕ) (l : WatchLine) (left right : Option ℕ) (a b : ℕ) (j k : List A)
    → AsksToPublish l left right → Stretch of_cell x agent (Published agent left right a b ∷ []) j k → DidLine x agent l (word.Set a b) j k
was_set x agent l left right a b j k asks s = record {
  share = just (Published agent left right a b ∷ []);
  is = record { left = left; right = right; asks = asks; is = refl };
  did = Did-just of_cell x agent (Published agent left right a b ∷ []) j k s;
}
