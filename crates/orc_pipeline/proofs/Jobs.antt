-- The jobs of Puts and Tooks, of one agent and of all.
use Rattle.std.proofs.Common.{◌≡◌, ◌≢◌, ℕ, zero, suc, arith, ◌+◌, List, [], ◌∷◌, ◌++◌, Bool, true, false, cond, ◌==◌, filter, map, ◌⊎◌, inl, inr, refl, ap, sym, ◌∙◌, append_assoc, append-nil}
use Rattle.std.specs.List.{AllByRecursion}
use Rattle.std.proofs.lemmas.List.{map-append}
use Rattle.std.proofs.lemmas.List.Elements.{filter-append}
use Rattle.orc_history.specs.declared.queue.QueueEntry.{QueueEntry}
use Rattle.orc_history.specs.declared.queue.QueueEntry.TheVariants.{Put, Took, Empty}
use Rattle.orc_history.specs.QueueHistory.{agent_of_entry, IsLegalFrom, waiting_after}
use Rattle.orc_board.specs.Stretches.{is_own_move}
use Rattle.orc_board.specs.Follows.{ZeroLast}
use Rattle.orc_board.proofs.ListFacts.{eq-yes, eq-no, eq-false}
use Rattle.orc_stages.specs.Stage.{jobs_of}
use Rattle.orc_stages.proofs.Shares.{jobs_of-append}

no_tail : {X : Type 0} (x : X) (xs : List X) → x ∷ xs ≡ [] → xs ≡ []
no_tail x xs e = let n : ⊥ = cc in absurd n

-- one entry fewer
own_step : (put : Bool) (a : ℕ) (e : QueueEntry) (es : List QueueEntry) → jobs_of put (filter (is_own_move a) (e ∷ es)) ≡ []
    → jobs_of put (filter (is_own_move a) es) ≡ []
own_step true a (Put by job at) es h =
    let F : List QueueEntry = filter (is_own_move a) es in
    let cases : (b : Bool) → jobs_of true (cond b (Put by job at ∷ F) F) ≡ [] → jobs_of true F ≡ [] =
    elim [ true ↦ λ x. no_tail job (jobs_of true F) x | false ↦ λ x. x ] in
    cases (by == a) h
own_step false a (Put by job at) es h =
    let F : List QueueEntry = filter (is_own_move a) es in
    let cases : (b : Bool) → jobs_of false (cond b (Put by job at ∷ F) F) ≡ [] → jobs_of false F ≡ [] = elim [ true ↦ λ x. x | false ↦ λ x. x ] in
    cases (by == a) h
own_step true a (Took by job at) es h =
    let F : List QueueEntry = filter (is_own_move a) es in
    let cases : (b : Bool) → jobs_of true (cond b (Took by job at ∷ F) F) ≡ [] → jobs_of true F ≡ [] = elim [ true ↦ λ x. x | false ↦ λ x. x ] in
    cases (by == a) h
own_step false a (Took by job at) es h =
    let F : List QueueEntry = filter (is_own_move a) es in
    let cases : (b : Bool) → jobs_of false (cond b (Took by job at ∷ F) F) ≡ [] → jobs_of false F ≡ [] =
    elim [ true ↦ λ x. no_tail job (jobs_of false F) x | false ↦ λ x. x ] in
    cases (by == a) h
own_step put a (Empty by) es h = h

-- an entry with such a job is its own agent's, where no other agent has one
own_joins : (put : Bool) (w by job : ℕ) (e : QueueEntry) (es : List QueueEntry) → ((xs : List QueueEntry) → jobs_of put (e ∷ xs) ≡ job ∷ jobs_of put xs)
    → ((a : ℕ) → a ≢ w → jobs_of put (cond (by == a) (e ∷ filter (is_own_move a) es) (filter (is_own_move a) es)) ≡ [])
    → jobs_of put es ≡ jobs_of put (filter (is_own_move w) es)
    → job ∷ jobs_of put es ≡ jobs_of put (cond (by == w) (e ∷ filter (is_own_move w) es) (filter (is_own_move w) es))
own_joins put w by job e es with_job h rest =
    let F : List QueueEntry = filter (is_own_move w) es in
    let cases : (b : Bool) → (by == w) ≡ b → job ∷ jobs_of put es ≡ jobs_of put (cond b (e ∷ F) F) = elim [
      | true ↦ λ x. ap (λ z. job ∷ z) rest ∙ sym (with_job F)
      | false ↦ λ x.
          let own : List QueueEntry = filter (is_own_move by) es in
          let here : jobs_of put (e ∷ own) ≡ [] = rw (eq-yes by by refl) at (h by (eq-false by w x)) in
          let first : job ∷ jobs_of put own ≡ [] = sym (with_job own) ∙ here in
          let n : ⊥ = cc in
          absurd n
    ] in
    cases (by == w) refl

-- and another changes nothing
own_skips : (put : Bool) (w by : ℕ) (e : QueueEntry) (es : List QueueEntry) → ((xs : List QueueEntry) → jobs_of put (e ∷ xs) ≡ jobs_of put xs)
    → jobs_of put es ≡ jobs_of put (filter (is_own_move w) es)
    → jobs_of put es ≡ jobs_of put (cond (by == w) (e ∷ filter (is_own_move w) es) (filter (is_own_move w) es))
own_skips put w by e es no_job rest =
    let F : List QueueEntry = filter (is_own_move w) es in
    let cases : (b : Bool) → jobs_of put es ≡ jobs_of put (cond b (e ∷ F) F) = elim [ true ↦ rest ∙ sym (no_job F) | false ↦ rest ] in
    cases (by == w)

-- where one agent alone has such entries, its own are all
pub jobs_only : (put : Bool) (w : ℕ) (es : List QueueEntry) → ((a : ℕ) → a ≢ w → jobs_of put (filter (is_own_move a) es) ≡ [])
    → jobs_of put es ≡ jobs_of put (filter (is_own_move w) es)
jobs_only put w [] h = refl
jobs_only true w (Put by job at ∷ es) h =
    own_joins true w by job (Put by job at) es (λ xs. refl) h (jobs_only true w es (λ a other. own_step true a (Put by job at) es (h a other)))
jobs_only false w (Put by job at ∷ es) h =
    own_skips false w by (Put by job at) es (λ xs. refl) (jobs_only false w es (λ a other. own_step false a (Put by job at) es (h a other)))
jobs_only true w (Took by job at ∷ es) h =
    own_skips true w by (Took by job at) es (λ xs. refl) (jobs_only true w es (λ a other. own_step true a (Took by job at) es (h a other)))
jobs_only false w (Took by job at ∷ es) h =
    own_joins false w by job (Took by job at) es (λ xs. refl) h (jobs_only false w es (λ a other. own_step false a (Took by job at) es (h a other)))
jobs_only put w (Empty by ∷ es) h = jobs_only put w es (λ a other. own_step put a (Empty by) es (h a other))

-- an agent that has no entry
pub no_moves : (a : ℕ) (es : List QueueEntry) → AllByRecursion (λ e. agent_of_entry e ≢ a) es → filter (is_own_move a) es ≡ []
no_moves a [] h = refl
no_moves a (Put by job at ∷ es) h = rw (eq-no by a h.0) (no_moves a es h.1)
no_moves a (Took by job at ∷ es) h = rw (eq-no by a h.0) (no_moves a es h.1)
no_moves a (Empty by ∷ es) h = no_moves a es h.1

zeros_other : (a : ℕ) (es : List QueueEntry) → a ≢ 0 → AllByRecursion (λ e. agent_of_entry e ≡ 0) es → AllByRecursion (λ e. agent_of_entry e ≢ a) es
zeros_other a [] other h = tt
zeros_other a (e ∷ es) other h = ((λ is. other (sym is ∙ h.0)), zeros_other a es other h.1)

zero_case : (a : ℕ) → (a ≡ 0) ⊎ (a ≢ 0)
zero_case zero = inl refl
zero_case (suc a) = inr (λ e. absurd (omega (arith, e)))

-- of all entries those of agent 0 stand last: the jobs of one other agent's, and then those of agent 0's
pub jobs_two : (put : Bool) (w : ℕ) (es : List QueueEntry) → ZeroLast agent_of_entry es → w ≢ 0
    → ((a : ℕ) → a ≢ 0 → a ≢ w → jobs_of put (filter (is_own_move a) es) ≡ [])
    → jobs_of put es ≡ jobs_of put (filter (is_own_move w) es) ++ jobs_of put (filter (is_own_move 0) es)
jobs_two put w es z some others =
    let own : ℕ → List QueueEntry → List QueueEntry = λ a xs. filter (is_own_move a) xs in
    let split : (a : ℕ) → own a es ≡ own a z.front ++ own a z.back = λ a. ap (own a) z.is ∙ filter-append (is_own_move a) z.front z.back in
    let front0 : own 0 z.front ≡ [] = no_moves 0 z.front z.others in
    let back : (a : ℕ) → a ≢ 0 → own a z.back ≡ [] = λ a other. no_moves a z.back (zeros_other a z.back other z.zeros) in
    let front_is : (a : ℕ) → a ≢ 0 → own a es ≡ own a z.front = λ a other.
    split a ∙ (ap (λ u. own a z.front ++ u) (back a other) ∙ append-nil (own a z.front)) in
    let zero_is : own 0 es ≡ own 0 z.back = split 0 ∙ ap (λ u. u ++ own 0 z.back) front0 in
    let only_w : jobs_of put z.front ≡ jobs_of put (own w z.front) = jobs_only put w z.front (λ a other.
    elim (zero_case a) as (λ _. jobs_of put (own a z.front) ≡ []) [
      | inl e ↦ ap (λ (x : ℕ). jobs_of put (own x z.front)) e ∙ ap (jobs_of put) front0
      | inr g ↦ ap (jobs_of put) (sym (front_is a g)) ∙ others a g other
    ]) in
    let only_0 : jobs_of put z.back ≡ jobs_of put (own 0 z.back) = jobs_only put 0 z.back (λ a other. ap (jobs_of put) (back a other)) in
    ap (jobs_of put) z.is
    ∙ (jobs_of-append put z.front z.back
    ∙ (ap (λ u. u ++ jobs_of put z.back) (only_w ∙ ap (jobs_of put) (sym (front_is w some)))
    ∙ ap (λ u. jobs_of put (own w es) ++ u) (only_0 ∙ ap (jobs_of put) (sym zero_is))))

-- a legal history that leaves nothing waiting took what was put, in order
pub legal_jobs : (n : ℕ) (w : List (ℕ × ℕ)) (es : List QueueEntry) → IsLegalFrom n w es
    → map (λ (x : ℕ × ℕ). x.0) w ++ jobs_of true es ≡ jobs_of false es ++ map (λ (x : ℕ × ℕ). x.0) (waiting_after w es)
legal_jobs n w [] legal = append-nil (map (λ (x : ℕ × ℕ). x.0) w)
legal_jobs n w (Put by job at ∷ es) legal =
    let first : ℕ × ℕ → ℕ = λ x. x.0 in
    sym (append_assoc (map first w) (job ∷ []) (jobs_of true es))
    ∙ (ap (λ z. z ++ jobs_of true es) (sym (map-append first w ((job, at) ∷ []))) ∙ legal_jobs (n + 1) (w ++ (job, at) ∷ []) es legal.1)
legal_jobs n w (Took by job at ∷ es) (rest, is, legal) = rw is (ap (λ z. job ∷ z) (legal_jobs n rest es legal))
legal_jobs n w (Empty by ∷ es) legal = legal_jobs n w es legal.1
