-- From what posters, workers and the caller did to the pipeline.
use Rattle.std.proofs.Common.{◌≡◌, ◌≢◌, ℕ, zero, suc, ◌+◌, ◌-◌, ◌<◌, ◌≤◌, ◌^◌, ◌==◌, arith, List, [], ◌∷◌, ◌++◌, length, Bool, true, false, filter, map, ◌⊎◌, inl, inr, refl, ap, sym, ◌∙◌, subst, append-nil, length-append}
use Rattle.std.specs.List.{AllByRecursion, range_with_len}
use Rattle.std.proofs.lemmas.List.{map-append, length-map}
use Rattle.std.proofs.lemmas.List.FromFn.{length-range_with_len}
use Rattle.std.proofs.lemmas.List.Sorted.{length_permutation}
use Rattle.orc_history.specs.declared.queue.QueueEntry.{QueueEntry}
use Rattle.orc_history.specs.declared.queue.QueueRefused.{QueueRefused}
use Rattle.orc_history.specs.QueueHistory.{agent_of_entry, puts_in, waiting_after}
use Rattle.orc_history.proofs.Histories.{puts_in-append}
use Rattle.orc_jobs.specs.declared.line.Line.{Line}
use Rattle.orc_board.specs.declared.replies.PostReply.{PostReply}
use Rattle.orc_board.specs.declared.replies.PostWord.TheVariants as word
use Rattle.orc_board.specs.Stretches.{View, is_own_move}
use Rattle.orc_board.specs.Follows.{grouped_by_key, posts_of}
use Rattle.orc_board.proofs.ListFacts.{AllByRecursion-append, AllByRecursion-map, AllByRecursion-left, AllByRecursion-right, filter-none, le-cases, eq-true, eq-false, zero_or}
use Rattle.orc_board.proofs.Orders.{each_line}
use Rattle.orc_board.proofs.WorkerCases.{own_whole}
use Rattle.orc_workers.proofs.Learned.{zero_ended}
use Rattle.orc_stages.specs.declared.replies.StageReply.{StageReply}
use Rattle.orc_stages.specs.Stage.{QueueShare, DidShares, IsItem, Posting, MoveTable, froms, tos, jobs_of, own_of_shares}
use Rattle.orc_stages.specs.Desks.{Acts}
use Rattle.orc_pipeline.specs.Desks.{PosterActs, StageActs}
use Rattle.orc_pipeline.specs.Pipeline.{jobs_by, kept_replies, lines_of, moves_of, Placing, PostersFollow, StageFollows, IsPipeline}
use Rattle.orc_pipeline.specs.Ran.{Ran, in_run, unseen}
use Rattle.orc_stages.proofs.Shares.{own_of-append, jobs_of-append, shares_none, shares_stretch}
use Rattle.orc_pipeline.proofs.Jobs.{jobs_only, jobs_two, legal_jobs, no_moves}
use Rattle.orc_pipeline.proofs.Tables.{to_jobs, from_jobs, from_puts, kept_items, kept-append, kept_few, posts_say}
use Rattle.orc_stages.proofs.Lists.{no_items}
use Rattle.orc_pipeline.proofs.Counts.{sum_to, sum_fewer, sum_above, puts_by_agents, by_key_length, all_by_key, puts_counted, puts_all}
use Rattle.orc_pipeline.proofs.Places.{have_positions, no_positions, placing}

same_or : (a b : ℕ) → (a ≡ b) ⊎ (a ≢ b)
same_or a b =
    let cases : (t : Bool) → (a == b) ≡ t → (a ≡ b) ⊎ (a ≢ b) = elim [ true ↦ λ e. inl (eq-true a b e) | false ↦ λ e. inr (eq-false a b e) ] in
    cases (a == b) refl

-- what a poster did in no queue but the first, and what it took
posted_tooks : (lines : List Line) (posters agent : ℕ) (posts : List PostReply) (acts : ℕ → List QueueShare) → PosterActs lines posters agent posts acts → (i : ℕ)
    → jobs_of false (own_of_shares (acts i)) ≡ []
posted_tooks lines posters agent posts acts w i = elim (same_or i 0) as (λ _. jobs_of false (own_of_shares (acts i)) ≡ []) [
  | inl e ↦ ap (λ (j : ℕ). jobs_of false (own_of_shares (acts j))) e ∙ (posts_say lines agent posts (acts 0) w.table).no_tooks
  | inr other ↦ ap (λ (s : List QueueShare). jobs_of false (own_of_shares s)) (w.others i other)
]

posted_puts : (lines : List Line) (posters agent : ℕ) (posts : List PostReply) (acts : ℕ → List QueueShare) → PosterActs lines posters agent posts acts → (i : ℕ)
    → i ≢ 0 → jobs_of true (own_of_shares (acts i)) ≡ []
posted_puts lines posters agent posts acts w i other = ap (λ (s : List QueueShare). jobs_of true (own_of_shares s)) (w.others i other)

-- what a stage took but from its queue, and what it put but into the next
moved_tooks : (lines : List Line) (place stage agent : ℕ) (moves : List StageReply) (acts : ℕ → List QueueShare) → StageActs lines place stage agent moves acts
    → (i : ℕ) → i ≢ place → jobs_of false (own_of_shares (acts i)) ≡ []
moved_tooks lines place stage agent moves acts w i other = elim (same_or i (suc place)) as (λ _. jobs_of false (own_of_shares (acts i)) ≡ []) [
  | inl e ↦
      ap (λ (j : ℕ). jobs_of false (own_of_shares (acts j))) e
      ∙ (ap (λ (s : List QueueShare). jobs_of false (own_of_shares s)) w.to ∙ to_jobs lines stage agent moves w.rows w.table false)
  | inr more ↦ ap (λ (s : List QueueShare). jobs_of false (own_of_shares s)) (w.others i other more)
]

moved_puts : (lines : List Line) (place stage agent : ℕ) (moves : List StageReply) (acts : ℕ → List QueueShare) → StageActs lines place stage agent moves acts
    → (i : ℕ) → i ≢ suc place → jobs_of true (own_of_shares (acts i)) ≡ []
moved_puts lines place stage agent moves acts w i other = elim (same_or i place) as (λ _. jobs_of true (own_of_shares (acts i)) ≡ []) [
  | inl e ↦
      ap (λ (j : ℕ). jobs_of true (own_of_shares (acts j))) e
      ∙ (ap (λ (s : List QueueShare). jobs_of true (own_of_shares s)) w.from ∙ from_puts lines stage agent moves w.rows w.table)
  | inr more ↦ ap (λ (s : List QueueShare). jobs_of true (own_of_shares s)) (w.others i more other)
]

-- shares of two kinds, one after another
record Halves {A : Type 0} (y : View A QueueEntry QueueRefused) (agent : ℕ) (xs ys : List QueueShare) (j l : List A) : Type 0 where
  until : List A
  first : DidShares y agent xs j until
  then : DidShares y agent ys until l

halves : {A : Type 0} (y : View A QueueEntry QueueRefused) (agent : ℕ) (xs ys : List QueueShare) (j l : List A) → DidShares y agent (xs ++ ys) j l
    → Halves y agent xs ys j l
halves y agent [] ys j l c = record { until = j; first = shares_none y agent j; then = c }
halves y agent (x ∷ xs) ys j l (i, one, c) =
    let rest = halves y agent xs ys i l c in
    record { until = rest.until; first = (i, one, rest.first); then = rest.then }

-- which agent it is
abbrev IsWhich : ℕ → ℕ → ℕ → Type 0
IsWhich posters stages a = ((1 ≤ a) × (a ≤ posters)) ⊎ (((s : ℕ) × (a ≡ posters + suc s) × (s < stages)) ⊎ (posters + stages < a))

late : (posters stages a : ℕ) → posters < a → a ≤ posters + stages → (s : ℕ) × (a ≡ posters + suc s) × (s < stages)
late posters stages a low high = (a - suc posters, omega (arith, low), omega (arith, low, high))

which : (posters stages a : ℕ) → a ≢ 0 → IsWhich posters stages a
which posters stages a some = elim (le-cases a posters) as (λ _. IsWhich posters stages a) [
  | inl low ↦
      let one : 1 ≤ a = elim (zero_or a) as (λ _. 1 ≤ a) [ inl z ↦ absurd (some z) | inr g ↦ g ] in
      inl (one, low)
  | inr high ↦ elim (le-cases a (posters + stages)) as (λ _. IsWhich posters stages a) [
    | inl low ↦ inr (inl (late posters stages a high low))
    | inr above ↦ inr (inr above)
  ]
]

module _ {A : Type 0} (x : ℕ → View A QueueEntry QueueRefused) (lines : List Line) (posters stages : ℕ) (posts : List PostReply) (work own : ℕ → List StageReply)
    (outs : List ℕ) (k : ℕ → List A) (some : 1 ≤ posters) (short : length lines ≤ 65535) (ran : Ran x lines posters stages posts work own outs k) where
  abbrev X : ℕ → View A QueueEntry QueueRefused
  X = in_run x posters stages

  abbrev h : ℕ → List QueueEntry
  h i = (x i).history (k i)

  -- an agent's own moves in each queue
  own_acts : (a : ℕ) (acts : ℕ → List QueueShare) → Acts X a acts unseen k → (i : ℕ) → filter (is_own_move a) (h i) ≡ own_of_shares (acts i)
  own_acts a acts c i = own_whole (X i) a (own_of_shares (acts i)) (k i) (ran.new i) (shares_stretch (X i) a (acts i) [] (k i) (c i))

  jobs_above : (put : Bool) (a i : ℕ) → posters + stages < a → jobs_by put a (h i) ≡ []
  jobs_above put a i above =
      ap (jobs_of put) (no_moves a (h i)
      (AllByRecursion-map (λ e. agent_of_entry e ≤ posters + stages) (λ e. agent_of_entry e ≢ a) (λ e low same. absurd (omega (arith, low, same, above))) (h i)
      (ran.few i)))

  -- nobody takes from a queue but its stage and the caller
  no_tooks : (i a : ℕ) → a ≢ 0 → a ≢ posters + suc i → jobs_by false a (h i) ≡ []
  no_tooks i a zero_not other = elim (which posters stages a zero_not) as (λ _. jobs_by false a (h i) ≡ []) [
    | inl p ↦
        let d = ran.posted a p.0 p.1 in
        ap (jobs_of false) (own_acts a d.acts d.acted i) ∙ posted_tooks lines posters a (posts_of a posts) d.acts d.wrote i
    | inr more ↦ elim more as (λ _. jobs_by false a (h i) ≡ []) [
      | inl s ↦
          let d = ran.moved s.0 s.2 in
          let not : i ≢ s.0 = λ e. other (s.1 ∙ ap (λ (n : ℕ). posters + suc n) (sym e)) in
          ap (λ (n : ℕ). jobs_by false n (h i)) s.1
          ∙ (ap (jobs_of false) (own_acts (posters + suc s.0) d.acts d.acted i)
          ∙ moved_tooks lines s.0 (suc s.0) (posters + suc s.0) (work s.0) d.acts d.wrote i not)
      | inr above ↦ jobs_above false a i above
    ]
  ]

  -- nobody puts into a queue but the first but the stage ahead of it and the caller
  no_puts : (i a : ℕ) → a ≢ 0 → a ≢ posters + suc i → jobs_by true a (h (suc i)) ≡ []
  no_puts i a zero_not other = elim (which posters stages a zero_not) as (λ _. jobs_by true a (h (suc i)) ≡ []) [
    | inl p ↦
        let d = ran.posted a p.0 p.1 in
        ap (jobs_of true) (own_acts a d.acts d.acted (suc i))
        ∙ posted_puts lines posters a (posts_of a posts) d.acts d.wrote (suc i) (λ e. absurd (omega (arith, e)))
    | inr more ↦ elim more as (λ _. jobs_by true a (h (suc i)) ≡ []) [
      | inl s ↦
          let d = ran.moved s.0 s.2 in
          let not : suc i ≢ suc s.0 = λ e. other (s.1 ∙ ap (λ (n : ℕ). posters + n) (sym e)) in
          ap (λ (n : ℕ). jobs_by true n (h (suc i))) s.1
          ∙ (ap (jobs_of true) (own_acts (posters + suc s.0) d.acts d.acted (suc i))
          ∙ moved_puts lines s.0 (suc s.0) (posters + suc s.0) (work s.0) d.acts d.wrote (suc i) not)
      | inr above ↦ jobs_above true a (suc i) above
    ]
  ]

  abbrev gave : ℕ → List QueueShare
  gave = ran.caller.gave

  abbrev took : ℕ → List QueueShare
  took = ran.caller.took

  caller_jobs : (put : Bool) (i : ℕ) → jobs_by put 0 (h i) ≡ jobs_of put (own_of_shares (gave i)) ++ jobs_of put (own_of_shares (took i))
  caller_jobs put i =
      ap (jobs_of put) (own_acts 0 (λ j. gave j ++ took j) ran.caller.acted i ∙ own_of-append (gave i) (took i))
      ∙ jobs_of-append put (own_of_shares (gave i)) (own_of_shares (took i))

  caller_table : (i : ℕ) → i < stages → MoveTable lines (suc i) 0 (own i) (ran.caller.acts.rows i)
  caller_table i low =
      let e : 1 + i ≡ suc i = omega arith in
      subst (λ (n : ℕ). MoveTable lines n 0 (own i) (ran.caller.acts.rows i)) e (ran.caller.acts.table i low)

  gave_tooks : (i : ℕ) → i ≤ stages → jobs_of false (own_of_shares (gave i)) ≡ []
  gave_tooks zero low = ap (λ (s : List QueueShare). jobs_of false (own_of_shares s)) ran.caller.acts.none_first
  gave_tooks (suc i) low =
      let less : i < stages = omega (arith, low) in
      ap (λ (s : List QueueShare). jobs_of false (own_of_shares s)) (ran.caller.acts.to i less)
      ∙ to_jobs lines (suc i) 0 (own i) (ran.caller.acts.rows i) (caller_table i less) false

  took_puts : (i : ℕ) → i ≤ stages → jobs_of true (own_of_shares (took i)) ≡ []
  took_puts i low = elim (le-cases stages i) as (λ _. jobs_of true (own_of_shares (took i)) ≡ []) [
    | inl high ↦
        let is : i ≡ stages = omega (arith, low, high) in
        ap (λ (n : ℕ). jobs_of true (own_of_shares (took n))) is ∙ ran.caller.acts.puts
    | inr less ↦
        ap (λ (s : List QueueShare). jobs_of true (own_of_shares s)) (ran.caller.acts.from i less)
        ∙ from_puts lines (suc i) 0 (own i) (ran.caller.acts.rows i) (caller_table i less)
  ]

  caller_tooks : (i : ℕ) → i ≤ stages → jobs_by false 0 (h i) ≡ jobs_of false (own_of_shares (took i))
  caller_tooks i low = caller_jobs false i ∙ ap (λ z. z ++ jobs_of false (own_of_shares (took i))) (gave_tooks i low)

  caller_puts : (i : ℕ) → i < stages → jobs_by true 0 (h (suc i)) ≡ kept_replies (own i)
  caller_puts i low =
      caller_jobs true (suc i)
      ∙ (ap (λ z. jobs_of true (own_of_shares (gave (suc i))) ++ z) (took_puts (suc i) (omega (arith, low)))
      ∙ (append-nil (jobs_of true (own_of_shares (gave (suc i))))
      ∙ (ap (λ (s : List QueueShare). jobs_of true (own_of_shares s)) (ran.caller.acts.to i low)
      ∙ to_jobs lines (suc i) 0 (own i) (ran.caller.acts.rows i) (caller_table i low) true)))

  caller_first : jobs_by true 0 (h 0) ≡ []
  caller_first =
      caller_jobs true 0
      ∙ (ap (λ z. z ++ jobs_of true (own_of_shares (took 0))) (ap (λ (s : List QueueShare). jobs_of true (own_of_shares s)) ran.caller.acts.none_first)
      ∙ took_puts 0 (omega arith))

  -- nobody but posters puts into the first queue
  no_others : (a : ℕ) → (1 ≤ a → a ≤ posters → ⊥) → jobs_by true a (h 0) ≡ []
  no_others a other = elim (same_or a 0) as (λ _. jobs_by true a (h 0) ≡ []) [
    | inl e ↦ ap (λ (n : ℕ). jobs_by true n (h 0)) e ∙ caller_first
    | inr more ↦ elim (which posters stages a more) as (λ _. jobs_by true a (h 0) ≡ []) [
      | inl p ↦ absurd (other p.0 p.1)
      | inr w ↦ elim w as (λ _. jobs_by true a (h 0) ≡ []) [
        | inl s ↦
            let d = ran.moved s.0 s.2 in
            ap (λ (n : ℕ). jobs_by true n (h 0)) s.1
            ∙ (ap (jobs_of true) (own_acts (posters + suc s.0) d.acts d.acted 0)
            ∙ moved_puts lines s.0 (suc s.0) (posters + suc s.0) (work s.0) d.acts d.wrote 0 (λ e. absurd (omega (arith, e))))
        | inr above ↦ jobs_above true a 0 above
      ]
    ]
  ]

  worker_not : (i : ℕ) → posters + suc i ≢ 0
  worker_not i e = absurd (omega (arith, e))

  -- the Puts of each queue but the first are those of its stage that found a place
  puts_are : (i : ℕ) → i < stages → jobs_of true (h (suc i)) ≡ kept_replies (work i ++ own i)
  puts_are i low =
      let w : ℕ = posters + suc i in
      let d = ran.moved i low in
      jobs_two true w (h (suc i)) (ran.zero_last (suc i)) (worker_not i) (no_puts i)
      ∙ (ap (λ z. z ++ jobs_by true 0 (h (suc i)))
      (ap (jobs_of true) (own_acts w d.acts d.acted (suc i) ∙ ap own_of_shares d.wrote.to) ∙ to_jobs lines (suc i) w (work i) d.wrote.rows d.wrote.table true)
      ∙ (ap (λ z. kept_replies (work i) ++ z) (caller_puts i low) ∙ sym (kept-append (work i) (own i))))

  -- all jobs that are put are numbers of lines that post one
  own_items : (a : ℕ) → AllByRecursion (IsItem lines) (jobs_by true a (h 0))
  own_items a =
      let none : (1 ≤ a → a ≤ posters → ⊥) → AllByRecursion (IsItem lines) (jobs_by true a (h 0)) = λ other.
      subst (AllByRecursion (IsItem lines)) (sym (no_others a other)) tt in
      elim (zero_or a) as (λ _. AllByRecursion (IsItem lines) (jobs_by true a (h 0))) [
        | inl z ↦ none (λ low high. absurd (omega (arith, low, z)))
        | inr low ↦ elim (le-cases a posters) as (λ _. AllByRecursion (IsItem lines) (jobs_by true a (h 0))) [
          | inl high ↦
              let d = ran.posted a low high in
              subst (AllByRecursion (IsItem lines)) (ap (jobs_of true) (sym (own_acts a d.acts d.acted 0)))
              (posts_say lines a (posts_of a posts) (d.acts 0) d.wrote.table).items
          | inr above ↦ none (λ l high. absurd (omega (arith, high, above)))
        ]
      ]

  put_items : (i : ℕ) → i ≤ stages → AllByRecursion (IsItem lines) (jobs_of true (h i))
  put_items zero low = puts_all (IsItem lines) (h 0) own_items
  put_items (suc i) low =
      let less : i < stages = omega (arith, low) in
      let d = ran.moved i less in
      subst (AllByRecursion (IsItem lines)) (sym (puts_are i less ∙ kept-append (work i) (own i)))
      (AllByRecursion-append (IsItem lines) (kept_replies (work i)) (kept_replies (own i))
      (kept_items lines (suc i) (posters + suc i) (work i) d.wrote.rows d.wrote.table)
      (kept_items lines (suc i) 0 (own i) (ran.caller.acts.rows i) (caller_table i less)))

  -- what was put was taken, in order, but for what still waits
  all_jobs : (i : ℕ) → jobs_of true (h i) ≡ jobs_of false (h i) ++ map (λ (z : ℕ × ℕ). z.0) (waiting_after [] (h i))
  all_jobs i = legal_jobs 0 [] (h i) (ran.legal i)

  took_items : (i : ℕ) → i ≤ stages → AllByRecursion (IsItem lines) (jobs_of false (h i))
  took_items i low =
      AllByRecursion-left (IsItem lines) (jobs_of false (h i)) (map (λ (z : ℕ × ℕ). z.0) (waiting_after [] (h i)))
      (subst (AllByRecursion (IsItem lines)) (all_jobs i) (put_items i low))

  -- who took from a queue but the last: its worker, and the caller
  record TookBy (i : ℕ) : Type 0 where
    worker : jobs_by false (posters + suc i) (h i) ≡ lines_of (work i)
    caller : jobs_by false 0 (h i) ≡ lines_of (own i)

  took_by : (i : ℕ) → i < stages → TookBy i
  took_by i low =
      let w : ℕ = posters + suc i in
      let up : i ≤ stages = omega (arith, low) in
      let d = ran.moved i low in
      let two = jobs_two false w (h i) (ran.zero_last i) (worker_not i) (no_tooks i) in
      let both : AllByRecursion (IsItem lines) (jobs_by false w (h i) ++ jobs_by false 0 (h i)) = subst (AllByRecursion (IsItem lines)) two (took_items i up) in
      let worker : jobs_by false w (h i) ≡ jobs_of false (own_of_shares (froms d.wrote.rows)) =
      ap (jobs_of false) (own_acts w d.acts d.acted i ∙ ap own_of_shares d.wrote.from) in
      let of_worker : AllByRecursion (IsItem lines) (jobs_of false (own_of_shares (froms d.wrote.rows))) =
      subst (AllByRecursion (IsItem lines)) worker (AllByRecursion-left (IsItem lines) (jobs_by false w (h i)) (jobs_by false 0 (h i)) both) in
      let caller : jobs_by false 0 (h i) ≡ jobs_of false (own_of_shares (froms (ran.caller.acts.rows i))) =
      caller_tooks i up ∙ ap (λ (s : List QueueShare). jobs_of false (own_of_shares s)) (ran.caller.acts.from i low) in
      let of_caller : AllByRecursion (IsItem lines) (jobs_of false (own_of_shares (froms (ran.caller.acts.rows i)))) =
      subst (AllByRecursion (IsItem lines)) caller (AllByRecursion-right (IsItem lines) (jobs_by false w (h i)) (jobs_by false 0 (h i)) both) in
      record {
        worker = worker ∙ from_jobs lines (suc i) w (work i) d.wrote.rows d.wrote.table of_worker;
        caller = caller ∙ from_jobs lines (suc i) 0 (own i) (ran.caller.acts.rows i) (caller_table i low) of_caller;
      }

  -- the Tooks of each queue but the last are those of its stage's replies
  tooks_are : (i : ℕ) → i < stages → jobs_of false (h i) ≡ lines_of (work i ++ own i)
  tooks_are i low =
      let by = took_by i low in
      jobs_two false (posters + suc i) (h i) (ran.zero_last i) (worker_not i) (no_tooks i)
      ∙ (ap (λ z. z ++ jobs_by false 0 (h i)) by.worker
      ∙ (ap (λ z. lines_of (work i) ++ z) by.caller ∙ sym (map-append (λ (r : StageReply). r.line) (work i) (own i))))

  caller_took : outs ≡ jobs_by false 0 (h stages)
  caller_took = sym ran.caller.acts.tooks ∙ sym (caller_tooks stages (omega arith))

  outs_are : outs ≡ jobs_of false (h stages)
  outs_are =
      let last : (a : ℕ) → a ≢ 0 → jobs_by false a (h stages) ≡ [] = λ a zero_not.
      elim (same_or a (posters + suc stages)) as (λ _. jobs_by false a (h stages) ≡ []) [
        | inl e ↦ jobs_above false a stages (omega (arith, e))
        | inr other ↦ no_tooks stages a zero_not other
      ] in
      caller_took ∙ sym (jobs_only false 0 (h stages) last)

  -- no more jobs go through a queue than there are lines
  own_few : (a : ℕ) → length (jobs_by true a (h 0)) ≤ length (posts_of a posts)
  own_few a =
      let none : (1 ≤ a → a ≤ posters → ⊥) → length (jobs_by true a (h 0)) ≤ length (posts_of a posts) = λ other.
      omega (arith, ap length (no_others a other)) in
      elim (zero_or a) as (λ _. length (jobs_by true a (h 0)) ≤ length (posts_of a posts)) [
        | inl z ↦ none (λ low high. absurd (omega (arith, low, z)))
        | inr low ↦ elim (le-cases a posters) as (λ _. length (jobs_by true a (h 0)) ≤ length (posts_of a posts)) [
          | inl high ↦
              let d = ran.posted a low high in
              let s = posts_say lines a (posts_of a posts) (d.acts 0) d.wrote.table in
              omega (arith, s.few, ap length (ap (jobs_of true) (own_acts a d.acts d.acted 0)))
          | inr above ↦ none (λ l high. absurd (omega (arith, high, above)))
        ]
      ]

  pub all_posts : length posts ≡ length lines
  all_posts =
      let line : PostReply → ℕ = λ r. r.line in
      omega (
        arith,
        length-map posts line,
        length-range_with_len 0 (length lines),
        length_permutation (map line posts) (range_with_len 0 (length lines)) (each_line lines posters 0 posts [] some ran.order),
      )

  first_few : length (jobs_of true (h 0)) ≤ length lines
  first_few =
      let f : ℕ → ℕ = λ a. length (jobs_by true a (h 0)) in
      let g : ℕ → ℕ = λ a. length (posts_of a posts) in
      let below : AllByRecursion (λ e. agent_of_entry e < suc posters + stages) (h 0) =
      AllByRecursion-map (λ e. agent_of_entry e ≤ posters + stages) (λ e. agent_of_entry e < suc posters + stages) (λ e low. omega (arith, low)) (h 0)
      (ran.few 0) in
      let above : (a : ℕ) → suc posters ≤ a → f a ≡ 0 = λ a high. ap length (no_others a (λ low few. absurd (omega (arith, high, few)))) in
      let counted : length (jobs_of true (h 0)) ≡ sum_to (suc posters) f =
      puts_by_agents (suc posters + stages) (h 0) below ∙ sum_above (suc posters) stages f above in
      let fewer : sum_to (suc posters) f ≤ sum_to (suc posters) g = sum_fewer (suc posters) f g (λ a low. own_few a) in
      let all : length posts ≡ sum_to (suc posters) g =
      ap length ran.order.by_poster ∙ by_key_length (λ (r : PostReply). r.poster) (suc posters) posts in
      omega (arith, counted, fewer, all, all_posts)

  fewer_tooks : (i : ℕ) → length (jobs_of false (h i)) ≤ length (jobs_of true (h i))
  fewer_tooks i =
      omega (arith, ap length (all_jobs i), length-append (jobs_of false (h i)) (map (λ (z : ℕ × ℕ). z.0) (waiting_after [] (h i))))

  -- no more are moved by a stage than were put into its queue
  moved_of_put : (i : ℕ) → i < stages → length (jobs_of true (h i)) ≤ length lines → length (work i ++ own i) ≤ length lines
  moved_of_put i low few =
      let moves : List StageReply = work i ++ own i in
      omega (arith, few, fewer_tooks i, ap length (tooks_are i low), length-map moves (λ (r : StageReply). r.line))

  few_puts : (i : ℕ) → i ≤ stages → length (jobs_of true (h i)) ≤ length lines
  few_puts zero low = first_few
  few_puts (suc i) low =
      let less : i < stages = omega (arith, low) in
      let few = moved_of_put i less (few_puts i (omega (arith, low))) in
      omega (arith, few, ap length (puts_are i less), kept_few (work i ++ own i))

  pub few_moves : (i : ℕ) → i < stages → length (work i ++ own i) ≤ length lines
  few_moves i low = moved_of_put i low (few_puts i (omega (arith, low)))

  few_positions : (i : ℕ) → i ≤ stages → puts_in (h i) < 2 ^ 62
  few_positions i low = omega (arith, puts_counted (h i), few_puts i low, short)

  full_empty : (i : ℕ) → i ≤ stages → length lines ≤ length (jobs_of false (h i)) → waiting_after [] (h i) ≡ []
  full_empty i low full =
      let w : List (ℕ × ℕ) = waiting_after [] (h i) in
      no_items w (omega (
        arith,
        full,
        few_puts i low,
        ap length (all_jobs i),
        length-append (jobs_of false (h i)) (map (λ (z : ℕ × ℕ). z.0) w),
        length-map w (λ (z : ℕ × ℕ). z.0),
      ))

  empty : (i : ℕ) → i ≤ stages → waiting_after [] (h i) ≡ []
  empty i low = elim (le-cases stages i) as (λ _. waiting_after [] (h i) ≡ []) [
    | inl high ↦
        let is : i ≡ stages = omega (arith, low, high) in
        subst (λ (n : ℕ). waiting_after [] (h n) ≡ []) (sym is) (elim ran.outs_ended as (λ _. waiting_after [] (h stages) ≡ []) [
          | inl e ↦ zero_ended (h stages) (ran.legal stages) (ran.zero_last stages) e
          | inr full ↦ full_empty stages (omega arith) (omega (arith, full, ap length outs_are))
        ])
    | inr less ↦ elim (ran.ended i less) as (λ _. waiting_after [] (h i) ≡ []) [
      | inl e ↦ zero_ended (h i) (ran.legal i) (ran.zero_last i) e
      | inr full ↦
          full_empty i low (omega (arith, full, ap length (tooks_are i less), length-map (work i ++ own i) (λ (r : StageReply). r.line)))
    ]
  ]

  posting_of : (p : ℕ) → 1 ≤ p → p ≤ posters → Posting (X 0) lines p (posts_of p posts) [] (k 0)
  posting_of p low high =
      let d = ran.posted p low high in
      record { shares = d.acts 0; table = d.wrote.table; did = d.acted 0 }

  no_posted : (a : ℕ) → a < suc posters → AllByRecursion (λ (r : PostReply). r.what ≢ word.Positions) (posts_of a posts)
  no_posted a low = elim (zero_or a) as (λ _. AllByRecursion (λ (r : PostReply). r.what ≢ word.Positions) (posts_of a posts)) [
    | inl z ↦
        let other : AllByRecursion (λ (r : PostReply). r.poster ≢ a) posts =
        AllByRecursion-map (λ (r : PostReply). 1 ≤ r.poster) (λ (r : PostReply). r.poster ≢ a) (λ r one e. absurd (omega (arith, one, e, z))) posts
        ran.order.none_of_zero in
        let none : posts_of a posts ≡ [] = filter-none (λ (r : PostReply). r.poster) a posts other in
        subst (AllByRecursion (λ (r : PostReply). r.what ≢ word.Positions)) (sym none) tt
    | inr one ↦
        let p = posting_of a one (omega (arith, low)) in
        no_positions lines a (posts_of a posts) p.shares p.table
        (have_positions (X 0) (ran.many 0) a p.shares [] (k 0) p.did (few_positions 0 (omega arith)))
  ]

  posters_follow : PostersFollow (x 0) lines posters stages posts (k 0)
  posters_follow = record {
    order = ran.order;
    posting = posting_of;
    no_positions =
        subst (AllByRecursion (λ (r : PostReply). r.what ≢ word.Positions)) (sym ran.order.by_poster)
        (all_by_key (λ (r : PostReply). r.what ≢ word.Positions) (λ (r : PostReply). r.poster) (suc posters) posts no_posted);
    no_others = no_others;
  }

  worker_places : (i : ℕ) → (low : i < stages) → Placing (X (suc i)) lines (suc i) (posters + suc i) (work i) [] (k (suc i))
  worker_places i low =
      let d = ran.moved i low in
      let c : DidShares (X (suc i)) (posters + suc i) (tos d.wrote.rows) [] (k (suc i)) =
      subst (λ (s : List QueueShare). DidShares (X (suc i)) (posters + suc i) s [] (k (suc i))) d.wrote.to (d.acted (suc i)) in
      placing (X (suc i)) lines (suc i) (posters + suc i) (work i) d.wrote.rows [] (k (suc i)) d.wrote.table c
      (have_positions (X (suc i)) (ran.many (suc i)) (posters + suc i) (tos d.wrote.rows) [] (k (suc i)) c (few_positions (suc i) (omega (arith, low))))

  caller_halves : (i : ℕ) → i < stages → Halves (X (suc i)) 0 (gave (suc i)) (took (suc i)) [] (k (suc i))
  caller_halves i low = halves (X (suc i)) 0 (gave (suc i)) (took (suc i)) [] (k (suc i)) (ran.caller.acted (suc i))

  caller_places : (i : ℕ) → (low : i < stages) → Placing (X (suc i)) lines (suc i) 0 (own i) [] (caller_halves i low).until
  caller_places i low =
      let b = caller_halves i low in
      let t = shares_stretch (X (suc i)) 0 (took (suc i)) b.until (k (suc i)) b.then in
      let before : puts_in ((x (suc i)).history b.until) ≤ puts_in (h (suc i)) =
      omega (arith, ap puts_in t.is, puts_in-append ((x (suc i)).history b.until) t.part) in
      let c : DidShares (X (suc i)) 0 (tos (ran.caller.acts.rows i)) [] b.until =
      subst (λ (s : List QueueShare). DidShares (X (suc i)) 0 s [] b.until) (ran.caller.acts.to i low) b.first in
      placing (X (suc i)) lines (suc i) 0 (own i) (ran.caller.acts.rows i) [] b.until (caller_table i low) c
      (have_positions (X (suc i)) (ran.many (suc i)) 0 (tos (ran.caller.acts.rows i)) [] b.until c
      (omega (arith, before, few_positions (suc i) (omega (arith, low)))))

  stage_follows : (i : ℕ) → (low : i < stages) → StageFollows (x i) (x (suc i)) lines posters stages (suc i) (work i ++ own i) (k i) (k (suc i))
  stage_follows i low =
      let b = caller_halves i low in
      record {
        tooks = tooks_are i low;
        puts = puts_are i low;
        by_worker = work i;
        by_caller = own i;
        are = refl;
        worker_took = (took_by i low).worker;
        caller_took = (took_by i low).caller;
        worker = worker_places i low;
        until = b.until;
        later = (shares_stretch (X (suc i)) 0 (took (suc i)) b.until (k (suc i)) b.then).later;
        caller = caller_places i low;
        found_empty = (ran.moved i low).found_empty;
      }

  -- the whole pipeline
  pub pipeline_of : (moves : List StageReply) → moves ≡ grouped_by_key (λ (r : StageReply). r.stage) (suc stages) moves
      → AllByRecursion (λ (r : StageReply). 1 ≤ r.stage) moves → ((i : ℕ) → i < stages → moves_of (suc i) moves ≡ work i ++ own i) → IsPipeline x lines posters stages posts moves outs k
  pipeline_of moves in_order none_of_zero are = record {
    legal = λ i low. ran.legal i;
    empty = empty;
    zero_last = λ i low. ran.zero_last i;
    posted = posters_follow;
    in_order = in_order;
    none_of_zero = none_of_zero;
    moved = λ i low.
        subst (λ (rs : List StageReply). StageFollows (x i) (x (suc i)) lines posters stages (suc i) rs (k i) (k (suc i))) (sym (are i low)) (stage_follows i low);
    outs_are = outs_are;
    caller_took = caller_took;
  }
