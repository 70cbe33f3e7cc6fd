-- Replies that follow a journal follow it also where its domain comes to rest.
use Rattle.std.proofs.Common.{List, [], ap, subst, sym, ℕ, ◌<◌, ◌≡◌}
use mathlib.Core.List.{IsPrefix}
use Rattle.orc_board.proofs.Shares.{DidAll-more}
use Rattle.orc_board.specs.Stretches.{View, beside}
use Rattle.orc_cell.specs.declared.refused.CellRefused.{CellRefused}
use Rattle.orc_cell.specs.declared.refused.CellRefused.TheVariants.{Again, NoNode, Spent}
use Rattle.orc_fault.specs.declared.Spent.{Spent as SpentRow}
use Rattle.orc_domain.specs.Rest.{GoesOnQuietly}
use Rattle.orc_pairs_rule.specs.CellHistory.{IsLegalCell}
use Rattle.orc_pairs_rule.specs.PairsDiscipline.{entries_of}
use Rattle.orc_pairs_rule.specs.declared.entry.CellEntry.{CellEntry}
use Rattle.orc_pairs_rule.specs.declared.pairs.PairsNote.{PairsNote}
use Rattle.orc_projection.specs.Projection.{project}
use Rattle.orc_sound.specs.declared.steps.Step.{Step}
use Rattle.orc_watch.specs.declared.line.WatchLine.{WatchLine}
use Rattle.orc_watch.specs.declared.reply.WatchReply.{WatchReply}
use Rattle.orc_at_rest.proofs.Silent.{did_nothing}
use Rattle.orc_watch_domain.specs.Cells.{LicensesOver, cell_over}
use Rattle.orc_watch_run.specs.CellView.{of_cell}
use Rattle.orc_watch_run.specs.Follows.{CellShare, EndsWithRead, IsInRun, WatchRepliesFollow}
use Rattle.orc_words.specs.Bounds.{Bounds}

module _ {A : Type 0} (x : View A CellEntry CellRefused) (lines : List WatchLine) (workers : ℕ) (replies : List WatchReply) (left right : ℕ) (k l : List A)
    (later : IsPrefix k l) (same : x.history l ≡ x.history k)
  where
    follow_more : WatchRepliesFollow x lines workers replies left right k → WatchRepliesFollow x lines workers replies left right l
    follow_more f = record {
      legal = subst (λ (h : List CellEntry). IsLegalCell h) (sym same) f.legal;
      order = f.order;
      watching = λ w low high.
          let y = beside x (IsInRun workers) in
          let one = f.watching w low high in
          record {
            shares = one.shares;
            table = one.table;
            did = DidAll-more of_cell y w (λ (share : CellShare). share) one.shares [] k l one.did (did_nothing of_cell y w k l (record { later = later; same = same }));
          };
      last = subst (λ (h : List CellEntry). EndsWithRead h left right) (sym same) f.last;
    }

-- a view that says the same is that of a cell over a domain of these sizes
module _ (x : View (Step PairsNote) CellEntry CellRefused) (b : Bounds) (history : (j : List (Step PairsNote)) → x.history j ≡ entries_of (project b j))
    (again : (agent : ℕ) (j : List (Step PairsNote)) (from to : ℕ) → x.licence agent Again j from to ≡ LicensesOver b agent Again j from to)
    (no_node : (agent : ℕ) (j : List (Step PairsNote)) (from to : ℕ) → x.licence agent NoNode j from to ≡ LicensesOver b agent NoNode j from to)
    (spent : (agent : ℕ) (why : SpentRow) (j : List (Step PairsNote)) (from to : ℕ)
    → x.licence agent (Spent why) j from to ≡ LicensesOver b agent (Spent why) j from to)
    (crowd : (by : ℕ) → x.crowd by ≡ (by < b.agents))
  where
    licences : (agent : ℕ) (why : CellRefused) (j : List (Step PairsNote)) (from to : ℕ) → x.licence agent why j from to ≡ LicensesOver b agent why j from to
    licences agent Again j from to = again agent j from to
    licences agent NoNode j from to = no_node agent j from to
    licences agent (Spent why) j from to = spent agent why j from to

    same_view : x ≡ cell_over b
    same_view = λ i. record { history = λ j. history j i; licence = λ agent why j from to. licences agent why j from to i; crowd = λ by. crowd by i }

    -- replies that follow by that view follow by the sizes, also once the journal went on without an event
    pub follow_at_rest : (c : Bounds) (lines : List WatchLine) (workers : ℕ) (replies : List WatchReply) (left right : ℕ) (k l : List (Step PairsNote))
        → b ≡ c → GoesOnQuietly b k l → WatchRepliesFollow x lines workers replies left right k
        → WatchRepliesFollow (cell_over c) lines workers replies left right l
    follow_at_rest c lines workers replies left right k l sizes quiet f =
        subst (λ (d : Bounds). WatchRepliesFollow (cell_over d) lines workers replies left right l) sizes
        (follow_more (cell_over b) lines workers replies left right k l quiet.later (ap entries_of quiet.quiet)
        (subst (λ (v : View (Step PairsNote) CellEntry CellRefused). WatchRepliesFollow v lines workers replies left right k) same_view f))
