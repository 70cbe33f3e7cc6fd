-- From what all workers did to the whole run, for any number of posters and takers.
use Rattle.std.proofs.Common.{◌≡◌, ℕ, suc, ◌+◌, ◌≤◌, ◌<◌, List, [], ◌∷◌, ◌++◌, length, map, Bool, true, false, cond, filter, ◌⊎◌, inl, inr, refl, ap, sym, ◌∙◌, subst, arith, length-append}
use Rattle.std.proofs.lemmas.List.{length-map}
use Rattle.std.proofs.lemmas.List.Sorted.{length_permutation}
use Rattle.std.specs.List.{AllByRecursion}
use Rattle.orc_history.specs.declared.queue.QueueEntry.{QueueEntry}
use Rattle.orc_history.specs.declared.queue.QueueEntry.TheVariants.{Put, Took, Empty}
use Rattle.orc_history.specs.declared.queue.QueueRefused.{QueueRefused}
use Rattle.orc_history.specs.declared.set.SetEntry.{SetEntry}
use Rattle.orc_history.specs.declared.set.ListRefused.{ListRefused}
use Rattle.orc_history.specs.QueueHistory.{agent_of_entry, IsLegalQueue, waiting_after}
use Rattle.orc_history.specs.SetHistory.{agent_of_set_entry, IsLegalSet}
use Rattle.orc_jobs.specs.declared.line.Line.{Line}
use Rattle.orc_jobs.specs.Line.{jobs_in}
use Rattle.orc_board.specs.declared.replies.PostReply.{PostReply}
use Rattle.orc_board.specs.declared.replies.TakeReply.{TakeReply}
use Rattle.orc_board.specs.Stretches.{View, of_queue, of_set, Stretch, Share, Did, Stands, empty_row, just, is_own_move, beside, all_beside}
use Rattle.orc_board.specs.Follows.{Posting, TakingRest, Claiming, AreInOrder, WorkersFollow, ZeroLast, LastIsEmpty, IsWorker, taker_agent, posts_of, takes_of, none}
use Rattle.orc_board.specs.Reportable.{posted_of, claim_of, takes_with}
use Rattle.orc_board.specs.Runs.{Ran}
use Rattle.orc_board.proofs.ListFacts.{AllByRecursion-append, AllByRecursion-left, AllByRecursion-right, AllByRecursion-filter, eq-yes}
use Rattle.orc_board.proofs.Shares.{Works-more}
use Rattle.orc_board.proofs.Wholes.{queue_of_rows, Works-queue}
use Rattle.orc_board.proofs.Workers.{asked_later}
use Rattle.orc_board.proofs.JobsTaken.{PutFits, TookFits, legal_tooks, rows_puts, took_rows_fit, skips_fit, no_skips, strict_rows}
use Rattle.orc_board.proofs.WorkerCases.{own_whole, worker_cases}
use Rattle.orc_workers.proofs.Resting.{resting_stretch}
use Rattle.orc_board.proofs.Positions.{ManyPuts}
use Rattle.orc_board.proofs.PairLists.{puts_of, tooks_of, legal_lists}
use Rattle.orc_board.proofs.Orders.{posted_few}
use Rattle.orc_board.proofs.Reported.{reportable_all, no_positions_all, permuted_all}

-- what is true of each agent's own entries is true of all
step_out : (P : QueueEntry → Type 0) (test : QueueEntry → Bool) (e : QueueEntry) (es : List QueueEntry) → AllByRecursion P (filter test (e ∷ es))
    → AllByRecursion P (filter test es)
step_out P test e es h =
    let cases : (b : Bool) → AllByRecursion P (cond b (e ∷ filter test es) (filter test es)) → AllByRecursion P (filter test es) =
    elim [ true ↦ λ x. x.1 | false ↦ λ x. x ] in
    cases (test e) h

by_agents : (P : QueueEntry → Type 0) → ((a : ℕ) → P (Empty a)) → (N : ℕ) (es : List QueueEntry) → AllByRecursion (λ e. agent_of_entry e ≤ N) es
    → ((a : ℕ) → a ≤ N → AllByRecursion P (filter (is_own_move a) es)) → AllByRecursion P es
by_agents P empties N [] below h = tt
by_agents P empties N (Put a job at ∷ es) below h =
    let here : AllByRecursion P (Put a job at ∷ filter (is_own_move a) es) = rw (eq-yes a a refl) at (h a below.0) in
    (here.0, by_agents P empties N es below.1 (λ b low. step_out P (is_own_move b) (Put a job at) es (h b low)))
by_agents P empties N (Took a job at ∷ es) below h =
    let here : AllByRecursion P (Took a job at ∷ filter (is_own_move a) es) = rw (eq-yes a a refl) at (h a below.0) in
    (here.0, by_agents P empties N es below.1 (λ b low. step_out P (is_own_move b) (Took a job at) es (h b low)))
by_agents P empties N (Empty a ∷ es) below h = (empties a, by_agents P empties N es below.1 (λ b low. step_out P (is_own_move b) (Empty a) es (h b low)))

resting_puts : {A B : Type 0} (qs : Bool → View A QueueEntry QueueRefused) (s : View B SetEntry ListRefused) (rush : Bool) (lines : List Line)
    (taker agent : ℕ) (rs : List TakeReply) (j k : Bool → List A) (m n : List B)
    → (t : TakingRest qs s lines taker agent rs j m k n)
    → AllByRecursion (PutFits lines rush) (queue_of_rows rush t.taking.rows ++ (t.last.row.queues rush).own)
resting_puts qs s rush lines taker agent rs j k m n t =
    let last : AllByRecursion (PutFits lines rush) (t.last.row.queues rush).own =
    subst (λ (x : Share QueueEntry QueueRefused). AllByRecursion (PutFits lines rush) x.own) (sym (t.last.is.queues rush))
    (skips_fit lines rush agent (t.last.is.skipped rush) (t.last.is.skips rush)) in
    AllByRecursion-append (PutFits lines rush) (queue_of_rows rush t.taking.rows) (t.last.row.queues rush).own
    (took_rows_fit lines rush taker agent rs t.taking.rows t.taking.table) last

-- where only posted jobs were taken, none was passed over
strict_taker : {A B : Type 0} (qs : Bool → View A QueueEntry QueueRefused) (s : View B SetEntry ListRefused) (lines : List Line) (taker agent : ℕ)
    (rs : List TakeReply) (k : Bool → List A) (n : List B)
    → ((b : Bool) → (qs b).history [] ≡ []) → ((b : Bool) → AllByRecursion (TookFits lines b) ((qs b).history (k b)))
    → TakingRest qs s lines taker agent rs none [] k n
    → Claiming qs s lines taker agent rs none [] k n
strict_taker qs s lines taker agent rs k n new fits t =
    let all : (b : Bool) → AllByRecursion (TookFits lines b) (queue_of_rows b t.taking.rows ++ (t.last.row.queues b).own) = λ b.
    subst (AllByRecursion (TookFits lines b))
    (own_whole (qs b) agent (queue_of_rows b t.taking.rows ++ (t.last.row.queues b).own) (k b) (new b)
    (resting_stretch qs s b lines taker agent rs none k [] n t))
    (AllByRecursion-filter (TookFits lines b) (is_own_move agent) ((qs b).history (k b)) (fits b)) in
    let skipped : (b : Bool) → t.last.is.skipped b ≡ [] = λ b. no_skips lines b agent (t.last.is.skipped b) (t.last.is.skips b)
    (subst (λ (x : Share QueueEntry QueueRefused). AllByRecursion (TookFits lines b) x.own) (t.last.is.queues b)
    (AllByRecursion-right (TookFits lines b) (queue_of_rows b t.taking.rows) (t.last.row.queues b).own (all b))) in
    let silent : Stands qs s agent empty_row t.queues t.set k n = record {
      queues = λ b. subst (λ (x : Share QueueEntry QueueRefused). Did of_queue (qs b) agent x (t.queues b) (k b))
          (t.last.is.queues b ∙ ap (λ (u : List QueueEntry). just u) (skipped b)) (t.last.stands.queues b);
      set = subst (λ (x : Share SetEntry ListRefused). Did of_set s agent x t.set n) t.last.is.set t.last.stands.set;
    } in
    record {
      rows = t.taking.rows;
      table = strict_rows lines taker agent rs t.taking.rows t.taking.table
          (λ b. AllByRecursion-left (TookFits lines b) (queue_of_rows b t.taking.rows) (t.last.row.queues b).own (all b));
      works = Works-more qs s agent t.taking.works silent;
      asked_rush = asked_later (qs true) agent rs [] [] (t.queues true) (k true) t.taking.asked_rush (silent.queues true).stretch;
    }

-- what all workers have done, where the journals k and n are those of a pass that learned from all others; q and s are already
-- beside all agents of the run
pub record AllWork {A B : Type 0} (qs : Bool → View A QueueEntry QueueRefused) (s : View B SetEntry ListRefused) (lines : List Line) (posters takers : ℕ)
    (posts : List PostReply) (takes : List TakeReply) (k : Bool → List A) (n : List B) : Type 0 where
  pub posting : (p : ℕ) → 1 ≤ p → p ≤ posters → Posting qs s lines p (posts_of p posts) none [] k n
  pub taking : (t : ℕ) → t ≤ takers → TakingRest qs s lines t (taker_agent posters t) (takes_of t takes) none [] k n
  pub order : AreInOrder lines posters takers posts takes
  pub agents : (b : Bool) → AllByRecursion (λ e. agent_of_entry e ≤ posters + takers) ((qs b).history (k b))
  pub queues_zero_last : (b : Bool) → ZeroLast agent_of_entry ((qs b).history (k b))
  pub set_zero_last : ZeroLast agent_of_set_entry (s.history n)
  pub found_empty : (t : ℕ) → 1 ≤ t → t ≤ takers → length (takes_of t takes) < jobs_in lines → (b : Bool) → LastIsEmpty (posters + t) ((qs b).history (k b))

fit_of : {A : Type 0} (q : View A QueueEntry QueueRefused) (rush : Bool) (lines : List Line) (agent : ℕ) (own : List QueueEntry) (k : List A)
    → q.history [] ≡ []
    → Stretch of_queue q agent own [] k → AllByRecursion (PutFits lines rush) own → AllByRecursion (PutFits lines rush) (filter (is_own_move agent) (q.history k))
fit_of q rush lines agent own k new t h = subst (AllByRecursion (PutFits lines rush)) (sym (own_whole q agent own k new t)) h

own_puts_fit : {A B : Type 0} (qs : Bool → View A QueueEntry QueueRefused) (s : View B SetEntry ListRefused) (rush : Bool) (lines : List Line)
    (posters takers : ℕ) (posts : List PostReply) (takes : List TakeReply) (k : Bool → List A) (n : List B)
    → (qs rush).history [] ≡ [] → AllWork qs s lines posters takers posts takes k n → (a : ℕ) → a ≤ posters + takers
    → AllByRecursion (PutFits lines rush) (filter (is_own_move a) ((qs rush).history (k rush)))
own_puts_fit qs s rush lines posters takers posts takes k n new w a low =
    let es : List QueueEntry = (qs rush).history (k rush) in
    let taker : (t : ℕ) → t ≤ takers → AllByRecursion (PutFits lines rush) (filter (is_own_move (taker_agent posters t)) es) = λ t h.
    let all = w.taking t h in
    fit_of (qs rush) rush lines (taker_agent posters t) (queue_of_rows rush all.taking.rows ++ (all.last.row.queues rush).own) (k rush) new
    (resting_stretch qs s rush lines t (taker_agent posters t) _ none k [] n all) (resting_puts qs s rush lines t (taker_agent posters t) _ none k [] n all) in
    let poster : (p : ℕ) → 1 ≤ p → p ≤ posters → AllByRecursion (PutFits lines rush) (filter (is_own_move p) es) = λ p g h.
    let all = w.posting p g h in
    fit_of (qs rush) rush lines p (queue_of_rows rush all.rows) (k rush) new (Works-queue qs s rush p all.works) (rows_puts lines rush p _ all.rows all.table) in
    worker_cases posters takers (λ x. AllByRecursion (PutFits lines rush) (filter (is_own_move x) es)) taker poster a low

-- qs and s are views of containers without the agents beside
pub follows_board : {A B : Type 0} (qs : Bool → View A QueueEntry QueueRefused) (s : View B SetEntry ListRefused) (lines : List Line) (posters takers : ℕ)
    (posts : List PostReply) (takes : List TakeReply) (k : Bool → List A) (n : List B)
    → ((b : Bool) → (qs b).history [] ≡ []) → ((b : Bool) → IsLegalQueue 0 ((qs b).history (k b)))
    → AllWork (all_beside qs (IsWorker posters takers)) (beside s (IsWorker posters takers)) lines posters takers posts takes k n
    → WorkersFollow qs s lines posters takers posts takes k n
follows_board {A} {B} qs s lines posters takers posts takes k n new legal w =
    let C : ℕ → Type 0 = IsWorker posters takers in
    let fits : (b : Bool) → AllByRecursion (TookFits lines b) ((qs b).history (k b)) = λ b.
    legal_tooks lines b 0 [] ((qs b).history (k b)) (legal b) tt
    (by_agents (PutFits lines b) (λ a. tt) (posters + takers) ((qs b).history (k b)) (w.agents b)
    (own_puts_fit (all_beside qs C) (beside s C) b lines posters takers posts takes k n (new b) w)) in
    record {
      posting = w.posting;
      claiming = λ t h. strict_taker (all_beside qs C) (beside s C) lines t (taker_agent posters t) _ k n new fits (w.taking t h);
      order = w.order;
      queues_zero_last = w.queues_zero_last;
      set_zero_last = w.set_zero_last;
      found_empty = w.found_empty;
    }

no_waiting : {X : Type 0} (xs : List X) → length xs ≤ 0 → xs ≡ []
no_waiting [] h = refl
no_waiting (x ∷ xs) h = absurd (omega arith)

-- the takes with rush and those without are all takes
pub sides : (takes : List TakeReply) → length (takes_with false takes) + length (takes_with true takes) ≡ length takes
sides [] = refl
sides (r ∷ rs) =
    let cases : (b : Bool) → r.rush ≡ b → length (takes_with false (r ∷ rs)) + length (takes_with true (r ∷ rs)) ≡ suc (length rs) =
    elim [ true ↦ λ e. rw e (omega (arith, sides rs)) | false ↦ λ e. rw e (omega (arith, sides rs)) ] in
    cases r.rush refl

-- the numbers of one queue
record Counted (rush : Bool) (posts : List PostReply) (takes : List TakeReply) (es : List QueueEntry) : Type 0 where
  puts : length (puts_of es) ≡ length (posted_of rush posts)
  all : length (puts_of es) ≡ length (takes_with rush takes) + length (waiting_after [] es)

-- the whole run, where the queues are known to be empty or as many takes came as there are lines
pub ran_board : {A B : Type 0} (qs : Bool → View A QueueEntry QueueRefused) (s : View B SetEntry ListRefused) (lines : List Line) (posters takers : ℕ)
    (posts : List PostReply) (takes : List TakeReply) (k : Bool → List A) (n : List B)
    → 1 ≤ posters → ((b : Bool) → (qs b).history [] ≡ []) → ((b : Bool) → ManyPuts (qs b)) → length lines ≤ 65535
    → ((b : Bool) → IsLegalQueue 0 ((qs b).history (k b))) → IsLegalSet (s.history n)
    → ((b : Bool) → waiting_after [] ((qs b).history (k b)) ≡ []) ⊎ (length lines ≤ length takes)
    → AllWork (all_beside qs (IsWorker posters takers)) (beside s (IsWorker posters takers)) lines posters takers posts takes k n
    → Ran qs s lines posters takers posts takes k n
ran_board {A} {B} qs s lines posters takers posts takes k n some new many short legal legal2 end w =
    let follows : WorkersFollow qs s lines posters takers posts takes k n = follows_board qs s lines posters takers posts takes k n new legal w in
    let es : Bool → List QueueEntry = λ b. (qs b).history (k b) in
    let few : length (posted_of false posts) + length (posted_of true posts) ≤ length lines = posted_few lines posters takers posts takes some follows.order in
    let counted : (b : Bool) → Counted b posts takes (es b) = λ b.
    let same = permuted_all qs b s lines posters takers posts takes k n some (new b) follows in
    let puts : length (puts_of (es b)) ≡ length (posted_of b posts) = sym (length_permutation (puts_of (es b)) (posted_of b posts) same.0) in
    let tooks : length (tooks_of (es b)) ≡ length (takes_with b takes) =
    sym (length_permutation (tooks_of (es b)) (map claim_of (takes_with b takes)) same.1) ∙ length-map (takes_with b takes) claim_of in
    let lists : puts_of (es b) ≡ tooks_of (es b) ++ waiting_after [] (es b) = legal_lists 0 [] (es b) (legal b) in
    record { puts = puts; all = omega (arith, ap length lists, length-append (tooks_of (es b)) (waiting_after [] (es b)), tooks) } in
    let f = counted false in
    let t = counted true in
    let none_waits : (length lines ≤ length takes) → (length (waiting_after [] (es false)) ≤ 0) × (length (waiting_after [] (es true)) ≤ 0) = λ full.
    (omega (arith, full, few, sides takes, f.puts, f.all, t.puts, t.all), omega (arith, full, few, sides takes, f.puts, f.all, t.puts, t.all)) in
    let empty : (b : Bool) → waiting_after [] (es b) ≡ [] = elim end as (λ _. (b : Bool) → waiting_after [] (es b) ≡ []) [
      | inl e ↦ e
      | inr full ↦
          elim [
            | false ↦ no_waiting (waiting_after [] (es false)) (none_waits full).0
            | true ↦ no_waiting (waiting_after [] (es true)) (none_waits full).1
          ]
    ] in
    let fewer : (b : Bool) → length (puts_of (es b)) ≤ length lines = elim [ false ↦ omega (arith, f.puts, few) | true ↦ omega (arith, t.puts, few) ] in
    record {
      follows = record { workers = follows; no_positions = no_positions_all qs s lines posters takers posts takes k n many short fewer follows };
      queues_legal = legal;
      set_legal = legal2;
      empty = empty;
      reportable = reportable_all qs s lines posters takers posts takes k n some new legal empty follows;
    }
