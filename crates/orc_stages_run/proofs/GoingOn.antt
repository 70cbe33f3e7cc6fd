-- Journals and replies that form a pipeline form one also where the journals go on without an entry.
use Rattle.std.proofs.Common.{◌≡◌, ℕ, suc, ◌+◌, ◌≤◌, List, [], ◌++◌, true, false, ap, sym, ◌∙◌, subst, arith, append_assoc}
use Rattle.orc_history.specs.declared.queue.QueueEntry.{QueueEntry}
use Rattle.orc_history.specs.declared.queue.QueueRefused.{QueueRefused}
use Rattle.orc_history.specs.QueueHistory.{IsLegalQueue, agent_of_entry, waiting_after}
use Rattle.orc_jobs.specs.declared.line.Line.{Line}
use Rattle.orc_board.specs.declared.replies.PostReply.{PostReply}
use Rattle.orc_board.specs.Follows.{IsWorker, LastIsEmpty, ZeroLast}
use Rattle.orc_board.specs.Stretches.{View, beside, of_queue}
use Rattle.orc_board.proofs.Shares.{DidAll-more}
use Rattle.orc_stages.specs.declared.replies.StageReply.{StageReply}
use Rattle.orc_stages.specs.Stage.{QueueShare, DidShares, jobs_of}
use Rattle.orc_pipeline.specs.Pipeline.{IsPipeline, PostersFollow, StageFollows, jobs_by, moves_of}
use Rattle.orc_at_rest.proofs.Silent.{Silent, did_nothing}

module _ {A : Type 0} where
  shares_more : (x : View A QueueEntry QueueRefused) (agent : ℕ) (shares : List QueueShare) (j k l : List A) → Silent x.history k l
      → DidShares x agent shares j k → DidShares x agent shares j l
  shares_more x agent shares j k l s c = DidAll-more of_queue x agent (λ (share : QueueShare). share) shares j k l c (did_nothing of_queue x agent k l s)

  posters_more : (x : View A QueueEntry QueueRefused) (lines : List Line) (posters stages : ℕ) (posts : List PostReply) (k l : List A) → Silent x.history k l
      → PostersFollow x lines posters stages posts k → PostersFollow x lines posters stages posts l
  posters_more x lines posters stages posts k l s f = record {
    order = f.order;
    posting = λ p low high.
        let one = f.posting p low high in record {
          shares = one.shares;
          table = one.table;
          did = shares_more (beside x (IsWorker posters stages)) p one.shares [] k l (record { later = s.later; same = s.same }) one.did;
        };
    no_positions = f.no_positions;
    no_others = λ a other. ap (jobs_by true a) s.same ∙ f.no_others a other;
  }

  stage_more : (x y : View A QueueEntry QueueRefused) (lines : List Line) (posters stages stage : ℕ) (replies : List StageReply) (k l n o : List A)
      → Silent x.history k l → Silent y.history n o → StageFollows x y lines posters stages stage replies k n
      → StageFollows x y lines posters stages stage replies l o
  stage_more x y lines posters stages stage replies k l n o s t f = record {
    tooks = ap (jobs_of false) s.same ∙ f.tooks;
    puts = ap (jobs_of true) t.same ∙ f.puts;
    by_worker = f.by_worker;
    by_caller = f.by_caller;
    are = f.are;
    worker_took = ap (jobs_by false (posters + stage)) s.same ∙ f.worker_took;
    caller_took = ap (jobs_by false 0) s.same ∙ f.caller_took;
    worker = record {
      shares = f.worker.shares;
      table = f.worker.table;
      did = shares_more (beside y (IsWorker posters stages)) (posters + stage) f.worker.shares [] n o (record { later = t.later; same = t.same }) f.worker.did;
    };
    until = f.until;
    later = (f.later.0 ++ t.later.0, sym (append_assoc f.until f.later.0 t.later.0) ∙ (ap (λ z. z ++ t.later.0) f.later.1 ∙ t.later.1));
    caller = f.caller;
    found_empty = λ few. subst (λ (h : List QueueEntry). LastIsEmpty (posters + stage) h) (sym s.same) (f.found_empty few);
  }

  -- and where each of its queues has another view that is equal
  pub pipeline_more : (x y : ℕ → View A QueueEntry QueueRefused) (lines : List Line) (posters stages : ℕ) (posts : List PostReply)
      (moves : List StageReply) (outs : List ℕ) (k l : ℕ → List A) → ((i : ℕ) → i ≤ stages → x i ≡ y i)
      → ((i : ℕ) → i ≤ stages → Silent (y i).history (k i) (l i)) → IsPipeline x lines posters stages posts moves outs k
      → IsPipeline y lines posters stages posts moves outs l
  pipeline_more x y lines posters stages posts moves outs k l e s p = record {
    legal = λ i low.
        subst (λ (h : List QueueEntry). IsLegalQueue 0 h) (sym (s i low).same)
        (subst (λ (v : View A QueueEntry QueueRefused). IsLegalQueue 0 (v.history (k i))) (e i low) (p.legal i low));
    empty = λ i low.
        ap (waiting_after []) (s i low).same
        ∙ subst (λ (v : View A QueueEntry QueueRefused). waiting_after [] (v.history (k i)) ≡ []) (e i low) (p.empty i low);
    zero_last = λ i low.
        subst (λ (h : List QueueEntry). ZeroLast agent_of_entry h) (sym (s i low).same)
        (subst (λ (v : View A QueueEntry QueueRefused). ZeroLast agent_of_entry (v.history (k i))) (e i low) (p.zero_last i low));
    posted = posters_more (y 0) lines posters stages posts (k 0) (l 0) (s 0 (omega arith))
        (subst (λ (v : View A QueueEntry QueueRefused). PostersFollow v lines posters stages posts (k 0)) (e 0 (omega arith)) p.posted);
    in_order = p.in_order;
    none_of_zero = p.none_of_zero;
    moved = λ i low.
        let here : i ≤ stages = omega (arith, low) in
        let next : suc i ≤ stages = omega (arith, low) in
        let replies = moves_of (suc i) moves in
        stage_more (y i) (y (suc i)) lines posters stages (suc i) replies (k i) (l i) (k (suc i)) (l (suc i)) (s i here) (s (suc i) next)
        (subst (λ (v : View A QueueEntry QueueRefused). StageFollows v (y (suc i)) lines posters stages (suc i) replies (k i) (k (suc i))) (e i here)
        (subst (λ (v : View A QueueEntry QueueRefused). StageFollows (x i) v lines posters stages (suc i) replies (k i) (k (suc i))) (e (suc i) next) (p.moved i low)));
    outs_are =
        p.outs_are
        ∙ (ap (λ (v : View A QueueEntry QueueRefused). jobs_of false (v.history (k stages))) (e stages (omega arith))
        ∙ ap (jobs_of false) (sym (s stages (omega arith)).same));
    caller_took =
        p.caller_took
        ∙ (ap (λ (v : View A QueueEntry QueueRefused). jobs_by false 0 (v.history (k stages))) (e stages (omega arith))
        ∙ ap (jobs_by false 0) (sym (s stages (omega arith)).same));
  }
