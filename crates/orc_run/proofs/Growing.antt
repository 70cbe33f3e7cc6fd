-- Replies that follow three journals follow them also where they go on without an entry.
use Rattle.std.proofs.Common.{Bool, true, List, [], ap, subst, sym, ℕ, ◌+◌, ◌∙◌}
use Rattle.orc_history.specs.declared.queue.QueueEntry.{QueueEntry}
use Rattle.orc_history.specs.declared.queue.QueueRefused.{QueueRefused}
use Rattle.orc_history.specs.declared.set.SetEntry.{SetEntry}
use Rattle.orc_history.specs.declared.set.ListRefused.{ListRefused}
use Rattle.orc_history.specs.QueueHistory.{IsLegalQueue, agent_of_entry, waiting_after}
use Rattle.orc_history.specs.SetHistory.{IsLegalSet, agent_of_set_entry}
use Rattle.orc_jobs.specs.declared.line.Line.{Line}
use Rattle.orc_board.specs.declared.replies.PostReply.{PostReply}
use Rattle.orc_board.specs.declared.replies.TakeReply.{TakeReply}
use Rattle.orc_board.specs.Follows.{LastIsEmpty, ZeroLast, none}
use Rattle.orc_board.specs.Runs.{Ran}
use Rattle.orc_board.specs.Stretches.{Row, View, Works, all_beside, beside, of_queue, of_set}
use Rattle.orc_board.proofs.Shares.{DidAll-more}
use Rattle.orc_at_rest.proofs.Silent.{Silent, did_nothing}

module _ {A B : Type 0} (qs : Bool → View A QueueEntry QueueRefused) (s : View B SetEntry ListRefused) (lines : List Line) (posters takers : ℕ)
    (posts : List PostReply) (takes : List TakeReply) (k : Bool → List A) (n : List B) (l : Bool → List A) (o : List B)
    (a : (rush : Bool) → Silent (qs rush).history (k rush) (l rush)) (b : Silent s.history n o)
  where
    works_more : (crowd : ℕ → Type 0) (worker : ℕ) (rows : List Row) → Works (all_beside qs crowd) (beside s crowd) worker rows none [] k n
        → Works (all_beside qs crowd) (beside s crowd) worker rows none [] l o
    works_more crowd worker rows w = record {
      queues = λ rush.
          DidAll-more of_queue (beside (qs rush) crowd) worker (λ (row : Row). row.queues rush) rows [] (k rush) (l rush) (w.queues rush)
          (did_nothing of_queue (beside (qs rush) crowd) worker (k rush) (l rush) (record { later = (a rush).later; same = (a rush).same }));
      set = DidAll-more of_set (beside s crowd) worker (λ (row : Row). row.set) rows [] n o w.set
          (did_nothing of_set (beside s crowd) worker n o (record { later = b.later; same = b.same }));
    }

    pub ran_more : Ran qs s lines posters takers posts takes k n → Ran qs s lines posters takers posts takes l o
    ran_more r =
        let w = r.follows.workers in
        record {
          follows = record {
            workers = record {
              posting = λ p low high. let x = w.posting p low high in record { rows = x.rows; table = x.table; works = works_more _ p x.rows x.works };
              claiming = λ t low.
                  let x = w.claiming t low in
                  record {
                    rows = x.rows;
                    table = x.table;
                    works = works_more _ _ x.rows x.works;
                    asked_rush = record { part = x.asked_rush.part; is = (a true).same ∙ x.asked_rush.is; answers = x.asked_rush.answers };
                  };
              order = w.order;
              queues_zero_last = λ rush.
                  subst (λ (h : List QueueEntry). ZeroLast agent_of_entry h) (sym (a rush).same) (w.queues_zero_last rush);
              set_zero_last = subst (λ (h : List SetEntry). ZeroLast agent_of_set_entry h) (sym b.same) w.set_zero_last;
              found_empty = λ t low high few rush.
                  subst (λ (h : List QueueEntry). LastIsEmpty (posters + t) h) (sym (a rush).same) (w.found_empty t low high few rush);
            };
            no_positions = r.follows.no_positions;
          };
          queues_legal = λ rush. subst (λ (h : List QueueEntry). IsLegalQueue 0 h) (sym (a rush).same) (r.queues_legal rush);
          set_legal = subst (λ (h : List SetEntry). IsLegalSet h) (sym b.same) r.set_legal;
          empty = λ rush. ap (waiting_after []) (a rush).same ∙ r.empty rush;
          reportable = r.reportable;
        }
