-- The opening is lawful, and its events are those of the seed. A state is taken as functions of words and agents, so that steps on
-- named words compute.
use Rattle.std.proofs.Common.{Bool, List, None, Some, [], ap, append-nil, append_assoc, arith, cond, eqb-true, eq-eqb, false, length, refl, subst, suc, sym, true, zero, ℕ, ◌++◌, ◌+◌, ◌<◌, ◌∙◌, ◌≡◌, ◌≤◌, ◌∷◌}
use Rattle.std.proofs.lemmas.Bool.{lt-ltb}
use Rattle.std.specs.Prelude.{nat_lt, ◌%◌, ◌==◌}
use Rattle.orc_core.specs.Allowed.{may}
use Rattle.orc_core.specs.Machine.{Machine, is_allowed, new_machine, nobody, record_at, step, word_in, word_read}
use Rattle.orc_core.specs.Runs.{run}
use Rattle.orc_core.specs.declared.ops.Op.TheVariants.{Enroll}
use Rattle.orc_core.specs.declared.records.Agent.{Agent}
use Rattle.orc_heap.specs.declared.events.Event.{Event}
use Rattle.orc_projection.specs.Mirror.{numbers_of}
use Rattle.orc_projection.specs.PresentIds.{PresentIds, no_ids}
use Rattle.orc_core.proofs.Steps.{every_run_whole}
use Rattle.orc_core.proofs.Within.{may_within}
use Rattle.orc_words.specs.Places.{places}
use Rattle.orc_core.specs.Actions.{action_of}
use Rattle.orc_projection.proofs.Mirrored.{ids-append, project-append}
use Rattle.orc_history.specs.Journals.{own_of}
use Rattle.orc_machine_board.proofs.Holds.{record_stays}
use Rattle.orc_shared_words.proofs.Runs.{by_other}
use Rattle.orc_shared_words.specs.Ends.{OpensLawfully}
use Rattle.orc_shared_words.specs.Runs.{AgentsBelow}
use Rattle.orc_heap.specs.declared.discipline.Discipline as discipline
use Rattle.orc_heap.proofs.Stays.{stays}
use Rattle.orc_heap.specs.Allowed.{AllAllowed}
use Rattle.orc_heap.specs.Acts.{with_value}
use Rattle.orc_heap.specs.Heap.{new_node}
use Rattle.orc_heap.specs.declared.events.Act.TheVariants as act
use Rattle.orc_machine_board.specs.Laws.Steps.{in_range}
use Rattle.orc_core.specs.Runs.{IsLawful}
use Rattle.orc_machine_board.specs.Passes.{HasNothing}
use Rattle.orc_machine_board.specs.Plays.{PlaysOn}
use Rattle.orc_machine_board.specs.Views.{Keeps}
use Rattle.orc_shared_words.proofs.LaterJournals.{new_pass_later}
use Rattle.orc_shared_words.specs.declared.journal.View.{View}
use Rattle.orc_sound.proofs.Journals.{IsLawfulJournal-append, plain-append, plain_lawful}
use Rattle.orc_words.specs.Bounds.{bounds_of}
use Rattle.orc_words.specs.declared.shape.Shape.{Shape}
use Rattle.orc_machine_board.specs.Rules.{bounds_in, counted_rules, heap_numbers}
use Rattle.orc_machine_board.specs.declared.machine.MachineShape.{MachineShape}
use Rattle.orc_heap.specs.Seeds.{HasRoots, SeedAllowed, opening_event, opening_events}
use Rattle.orc_sound.proofs.Shown.{word_shown}
use Rattle.orc_projection.specs.Projection.{StoresUnmarked, act_of, events_of, ids_after, ids_from, project, project_from}
use Rattle.orc_machine_board.specs.Laws.Steps.{bounds_run, run_more, run_next}
use Rattle.orc_machine_board.specs.Rules.{does, enrolments, newcomer, machine_opening, run_of, seeding}
use Rattle.orc_heap.specs.declared.seed.Seed.{Seed}
use Rattle.orc_heap.specs.declared.seed.Seed.TheVariants.{Dummy, Empty}
use Rattle.orc_sound.proofs.NewState.{counter_first, seats_first, zero_first}
use Rattle.orc_sound.proofs.Bridge.{same_word-true, world_step}
use Rattle.orc_sound.proofs.Full.{Full, full_first, full_step}
use Rattle.orc_sound.proofs.World.{World, read_by, same_word, seat, step_world, world_of, write}
use Rattle.orc_sound.specs.Journals.{IsLawfulJournal, IsWanted, plain}
use Rattle.orc_sound.specs.declared.steps.Step.{Step}
use Rattle.orc_words.specs.Bounds.{Bounds, IsShape}
use Rattle.orc_words.specs.declared.place.Word.{Word}
use Rattle.orc_words.specs.declared.place.Word.TheVariants.{Counter, Enrolled, Gate, Handover, Root}

-- a word that is written as it was
write_same : (m : Word → ℕ) (w : Word) (v : ℕ) → m w ≡ v → write m w v ≡ m
write_same m w v e = λ i x. at x (same_word x w) refl i
  where
    at : (x : Word) (t : Bool) → same_word x w ≡ t → cond t v (m x) ≡ m x
    at x true s = sym e ∙ ap m (sym (same_word-true x w s))
    at x false s = refl

seat_same : (seats : ℕ → Agent) (a : ℕ) (d : Agent) → seats a ≡ d → seat seats a d ≡ seats
seat_same seats a d e = λ i x. at x (x == a) refl i
  where
    at : (x : ℕ) (t : Bool) → (x == a) ≡ t → cond t d (seats x) ≡ seats x
    at x true s = sym e ∙ ap seats (sym (eqb-true x a s))
    at x false s = refl

-- the state after n agents have enrolled
abbrev enrolled : Bounds → ℕ → World
enrolled b n = record { memory = write (world_of (new_machine b)).memory Enrolled n; seats = λ a. cond (nat_lt a n) (newcomer b.rows) (nobody b.rows) }

twice : (t : Bool) (x y z : ℕ) → cond t x (cond t y z) ≡ cond t x z
twice true x y z = refl
twice false x y z = refl

one_more : (b : Bounds) (n : ℕ) → n < b.agents → b.agents ≤ 16 → step_world (enrolled b n) n Enroll ≡ enrolled b (suc n)
one_more b n lt few = λ i. record { memory = λ w. words w i; seats = λ x. records x i }
  where
    low : (n + 1) % 18446744073709551616 ≡ suc n
    low = omega arith

    words : (w : Word) → write (write (world_of (new_machine b)).memory Enrolled n) Enrolled ((n + 1) % 18446744073709551616) w ≡ write
        (world_of (new_machine b)).memory Enrolled (suc n) w
    words w = twice (same_word w Enrolled) ((n + 1) % 18446744073709551616) n ((world_of (new_machine b)).memory w)
        ∙ ap (λ v. cond (same_word w Enrolled) v ((world_of (new_machine b)).memory w)) low

    not_yet : nat_lt n n ≡ false
    not_yet = grind arith

    choose : (x : ℕ) (t : Bool) → (x == n) ≡ t
        → cond t (record (cond (nat_lt n n) (newcomer b.rows) (nobody b.rows)) { enrolled = true })
        (cond (nat_lt x n) (newcomer b.rows) (nobody b.rows)) ≡ cond (nat_lt x (suc n)) (newcomer b.rows) (nobody b.rows)
    choose x true e = ap (λ (t : Bool). record (cond t (newcomer b.rows) (nobody b.rows)) { enrolled = true }) not_yet
        ∙ ap (λ (t : Bool). cond t (newcomer b.rows) (nobody b.rows)) (sym (lt-ltb x (suc n) (let k = eqb-true x n e in omega arith)))
    choose x false e = ap (λ (t : Bool). cond t (newcomer b.rows) (nobody b.rows)) (same x e)
      where
        same : (x : ℕ) → (x == n) ≡ false → nat_lt x n ≡ nat_lt x (suc n)
        same x e = grind arith

    records : (x : ℕ) → (step_world (enrolled b n) n Enroll).seats x ≡ (enrolled b (suc n)).seats x
    records x = choose x (x == n) refl

none_yet : (b : Bounds) → world_of (new_machine b) ≡ enrolled b 0
none_yet b = λ i. record {
  memory = sym
      (write_same (world_of (new_machine b)).memory Enrolled 0 (zero_first b Enrolled refl)) i;
  seats = λ a. (seats_first b a ∙ first a) i;
}
  where
    first : (a : ℕ) → nobody b.rows ≡ cond (nat_lt a 0) (newcomer b.rows) (nobody b.rows)
    first a = ap (λ (t : Bool). cond t (newcomer b.rows) (nobody b.rows)) (none a)
      where
        none : (a : ℕ) → false ≡ nat_lt a 0
        none a = grind arith

-- after the enrolments
pub record EnrolledAll (N : Type 0) (b : Bounds) (n : ℕ) : Type 0 where
  pub lawful : IsLawfulJournal (new_machine b) (enrolments {N = N} n)
  pub world : world_of (run_of b (enrolments {N = N} n)) ≡ enrolled b n
  pub full : Full (run_of b (enrolments {N = N} n))

-- the same state, with the words that the seeding reads
abbrev ready : Bounds → World
ready b = record {
  memory = write (write (write (write (write (enrolled b b.agents).memory (Gate 0) 0) (Counter 0) 4194304) (Root 0) 0) (Root 1) 0) (Handover 0 1) 0;
  seats = seat (enrolled b b.agents).seats 0 (newcomer b.rows);
}

is_ready : (b : Bounds) → 0 < b.rows → 0 < b.agents → enrolled b b.agents ≡ ready b
is_ready b rows agents =
    let m = (enrolled b b.agents).memory in
    let w1 : write m (Gate 0) 0 ≡ m = write_same m (Gate 0) 0 (zero_first b (Gate 0) refl) in
    let w2 : write (write m (Gate 0) 0) (Counter 0) 4194304 ≡ m = ap (λ z. write z (Counter 0) 4194304) w1
    ∙ write_same m (Counter 0) 4194304 (counter_first b 0 rows) in
    let w3 : write (write (write m (Gate 0) 0) (Counter 0) 4194304) (Root 0) 0 ≡ m = ap (λ z. write z (Root 0) 0) w2
    ∙ write_same m (Root 0) 0 (zero_first b (Root 0) refl) in
    let w4 : write (write (write (write m (Gate 0) 0) (Counter 0) 4194304) (Root 0) 0) (Root 1) 0 ≡ m = ap (λ z. write z (Root 1) 0) w3
    ∙ write_same m (Root 1) 0 (zero_first b (Root 1) refl) in
    let w5 : write (write (write (write (write m (Gate 0) 0) (Counter 0) 4194304) (Root 0) 0) (Root 1) 0) (Handover 0 1) 0 ≡ m = ap
    (λ z. write z (Handover 0 1) 0) w4 ∙ write_same m (Handover 0 1) 0 (zero_first b (Handover 0 1) refl) in
    let seats : seat (enrolled b b.agents).seats 0 (newcomer b.rows) ≡ (enrolled b b.agents).seats = seat_same (enrolled b b.agents).seats 0
    (newcomer b.rows) (ap (λ (t : Bool). cond t (newcomer b.rows) (nobody b.rows)) (lt-ltb 0 b.agents agents)) in
    λ i. record { memory = sym w5 i; seats = sym seats i }

new_nothing : (room : ℕ) → HasNothing (newcomer room)
new_nothing room = record { enrolled = refl; slots = refl; fresh = refl; due = refl; inc = refl; dec = refl; hand = refl; scan = refl; doom = refl; list = refl }

module _ {N : Type 0} where
  -- lawful, and projected, by the state as functions
  abbrev LawfulSteps : Bounds → World → List (Step N) → Type 0
  LawfulSteps b z [] = Unit {0}
  LawfulSteps b z (s ∷ ss) = (may b (z.memory Enrolled) s.agent s.op (z.seats s.agent) ≡ true) × IsWanted (z.seats s.agent) s.op s.want × LawfulSteps b
      (step_world z s.agent s.op) ss

  steps_lawful : (m : Machine) (ss : List (Step N)) → Full m → LawfulSteps m.bounds (world_of m) ss → IsLawfulJournal m ss
  steps_lawful m [] w l = tt
  steps_lawful m (s ∷ ss) w l = (
    l.0,
    l.1,
    steps_lawful (step m s.agent s.op) ss (full_step m s.agent s.op w)
        (subst (λ z. LawfulSteps m.bounds z ss) (sym (world_step m s.agent s.op w.words w.agents l.0)) l.2),
  )

  pub all_enroll : (b : Bounds) (n : ℕ) → IsShape b → n ≤ b.agents → EnrolledAll N b n
  all_enroll b zero shape le = record { lawful = tt; world = none_yet b; full = full_first b shape }
  all_enroll b (suc n) shape le =
      let before = all_enroll b n shape (omega arith) in
      let m = run_of b (enrolments {N = N} n) in
      let few = shape.agents.1 in
      let lt : n < b.agents = omega arith in
      let new : may b n n Enroll (cond (nat_lt n n) (newcomer b.rows) (nobody b.rows)) ≡ true = may_enroll b n lt in
      let there : may b ((world_of m).memory Enrolled) n Enroll ((world_of m).seats n) ≡ true = subst
      (λ (z : World). may b (z.memory Enrolled) n Enroll (z.seats n) ≡ true) (sym before.world) new in
      let can : is_allowed m n Enroll ≡ true = subst (λ (c : Bounds). may c (word_in m Enrolled) n Enroll (record_at m n) ≡ true)
      (sym (bounds_run b (enrolments {N = N} n))) there in
      let next = run_next b (enrolments {N = N} n) (does n Enroll None) in
      record {
        lawful = (IsLawfulJournal-append (new_machine b) (enrolments {N = N} n) (does n Enroll None ∷ [])).1 (before.lawful, (can, tt, tt));
        world = ap world_of next
            ∙ (world_step m n Enroll before.full.words before.full.agents can ∙ (ap (λ z. step_world z n Enroll) before.world ∙ one_more b n lt few));
        full = subst Full (sym next) (full_step m n Enroll before.full);
      }
    where
      may_enroll : (b : Bounds) (n : ℕ) → n < b.agents → may b n n Enroll (cond (nat_lt n n) (newcomer b.rows) (nobody b.rows)) ≡ true
      may_enroll b n lt =
          let here = lt-ltb n b.agents lt in
          let same = eq-eqb n n refl in
          let not_yet : nat_lt n n ≡ false = grind arith in
          rw not_yet (grind arith)

  -- the steps for the seed
  seed_lawful : (b : Bounds) (seed : Seed N) → IsShape b → HasRoots (numbers_of b) seed → LawfulSteps b (ready b) (seeding seed)
  seed_lawful b Empty shape roots = tt
  seed_lawful b (Dummy first begin) shape roots =
      let rows : 0 < b.rows = let r = shape.rows.0 in omega arith in
      let agents : 0 < b.agents = let r = shape.agents.0 in omega arith in
      let limit : 0 < b.limit = let r = shape.limit.0 in omega arith in
      let one : 0 < b.roots = omega arith in
      let two : 1 < b.roots = omega arith in
      let more : 1 < b.limit + 64 = omega arith in
      let more0 : 0 < b.limit + 64 = omega arith in
      let t0 = lt-ltb 0 b.rows rows in
      let t1 = lt-ltb 0 b.agents agents in
      let t2 = lt-ltb 0 b.limit limit in
      let t3 = lt-ltb 0 b.roots one in
      let t4 = lt-ltb 1 b.roots two in
      let t5 = lt-ltb 1 (b.limit + 64) more in
      let t6 = lt-ltb 0 (b.limit + 64) more0 in (
        rw (t0, t1) refl,
        tt,
        (
          rw (t0, t1) refl,
          tt,
          (
            rw (t0, t1, t2) refl,
            tt,
            (
              rw (t0, t1) refl,
              tt,
              (
                rw (t0, t1) refl,
                tt,
                (
                  rw (t0, t1) refl,
                  tt,
                  (
                    rw (t0, t1) refl,
                    tt,
                    (
                      rw (t0, t1, t3, t6) refl,
                      tt,
                      (rw (t0, t1) refl, tt, (rw (t0, t1) refl, tt, (rw (t0, t1, t4, t5) refl, tt, (rw (t0, t1) refl, tt, (rw t1 refl, tt, (rw t1 refl, tt, tt)))))),
                    ),
                  ),
                ),
              ),
            ),
          ),
        ),
      )

  -- the state in which all are enrolled, which any seed finds
  enrolled_world : (b : Bounds) (seed : Seed N) → IsShape b → world_of (run_of b (enrolments {N = N} b.agents)) ≡ ready b
  enrolled_world b seed shape =
      let rows : 0 < b.rows = let r = shape.rows.0 in omega arith in
      let agents : 0 < b.agents = let r = shape.agents.0 in omega arith in
      (all_enroll b b.agents shape (omega arith)).world ∙ is_ready b rows agents

  -- the seeding may follow
  seeding_lawful : (b : Bounds) (seed : Seed N) → IsShape b → HasRoots (numbers_of b) seed
      → LawfulSteps (run_of b (enrolments {N = N} b.agents)).bounds (world_of (run_of b (enrolments {N = N} b.agents))) (seeding seed)
  seeding_lawful b seed shape roots =
      let m = run_of b (enrolments {N = N} b.agents) in
      subst (λ (c : Bounds). LawfulSteps c (world_of m) (seeding seed)) (sym (bounds_run b (enrolments {N = N} b.agents)))
      (subst (λ z. LawfulSteps b z (seeding seed)) (sym (enrolled_world b seed shape)) (seed_lawful b seed shape roots))

  pub opening_lawful : (b : Bounds) (seed : Seed N) → IsShape b → HasRoots (numbers_of b) seed
      → IsLawfulJournal (new_machine b) (machine_opening b.agents seed)
  opening_lawful b seed shape roots =
      let all = all_enroll b b.agents shape (omega arith) in
      (IsLawfulJournal-append (new_machine b) (enrolments {N = N} b.agents) (seeding seed)).1
      (all.lawful, steps_lawful (run_of b (enrolments {N = N} b.agents)) (seeding seed) all.full (seeding_lawful b seed shape roots))

  -- the events of steps, by the state as functions
  abbrev project_world : World → PresentIds → List (Step N) → List (Event N)
  project_world z p [] = []
  project_world z p (s ∷ ss) = events_of s (act_of p (z.seats s.agent) (read_by z s.agent s.op) s.op s.want) ++ project_world (step_world z s.agent s.op)
      (ids_after p (z.seats s.agent) (read_by z s.agent s.op) s.op) ss

  steps_project : (m : Machine) (p : PresentIds) (ss : List (Step N)) → Full m → LawfulSteps m.bounds (world_of m) ss
      → project_from m p ss ≡ project_world (world_of m) p ss
  steps_project m p [] w l = refl
  steps_project m p (s ∷ ss) w l =
      let next = world_step m s.agent s.op w.words w.agents l.0 in
      let read : read_by (world_of m) s.agent s.op ≡ word_read m s.agent s.op = word_shown m (action_of s.agent s.op (record_at m s.agent)).word
      (may_within m.bounds _ s.agent s.op (record_at m s.agent) l.0) in
      let v = word_read m s.agent s.op in
      let d = record_at m s.agent in
      let rest = steps_project (step m s.agent s.op) (ids_after p d v s.op) ss (full_step m s.agent s.op w)
      (subst (λ z. LawfulSteps m.bounds z ss) (sym next) l.2) in
      ap (λ es. events_of s (act_of p d v s.op s.want) ++ es) (rest ∙ ap (λ z. project_world z (ids_after p d v s.op) ss) next)
      ∙ ap (λ x. events_of s (act_of p d x s.op s.want) ++ project_world (step_world (world_of m) s.agent s.op) (ids_after p d x s.op) ss) (sym read)

  seed_events : (b : Bounds) (seed : Seed N) → project_world (ready b) no_ids (seeding seed) ≡ opening_events seed
  seed_events b Empty = refl
  seed_events b (Dummy first begin) = refl

  -- the state that steps leave, as functions
  abbrev run_world : World → List (Step N) → World
  run_world z [] = z
  run_world z (s ∷ ss) = run_world (step_world z s.agent s.op) ss

  steps_run : (m : Machine) (ss : List (Step N)) → Full m → LawfulSteps m.bounds (world_of m) ss → world_of (run m (plain ss)) ≡ run_world (world_of m) ss
  steps_run m [] w l = refl
  steps_run m (s ∷ ss) w l =
      let next = world_step m s.agent s.op w.words w.agents l.0 in
      steps_run (step m s.agent s.op) ss (full_step m s.agent s.op w) (subst (λ z. LawfulSteps m.bounds z ss) (sym next) l.2)
      ∙ ap (λ z. run_world z ss) next

  seed_nothing : (b : Bounds) (seed : Seed N) → HasNothing ((run_world (ready b) (seeding seed)).seats 0)
  seed_nothing b Empty = new_nothing b.rows
  seed_nothing b (Dummy first begin) =
      record { enrolled = refl; slots = refl; fresh = refl; due = refl; inc = refl; dec = refl; hand = refl; scan = refl; doom = refl; list = refl }

  -- enrolments are no events
  quiet_enrolments : (m : Machine) (p : PresentIds) (n : ℕ) → (project_from m p (enrolments {N = N} n) ≡ []) × (ids_from m p (enrolments {N = N} n) ≡ p)
  quiet_enrolments m p zero = (refl, refl)
  quiet_enrolments m p (suc n) =
      let before = quiet_enrolments m p n in (
        project-append m p (enrolments n) (does n Enroll None ∷ []) ∙ (append-nil (project_from m p (enrolments {N = N} n)) ∙ before.0),
        ids-append m p (enrolments n) (does n Enroll None ∷ []) ∙ before.1,
      )

  pub opened_events : (b : Bounds) (seed : Seed N) → IsShape b → HasRoots (numbers_of b) seed
      → project b (machine_opening b.agents seed) ≡ opening_events seed
  opened_events b seed shape roots =
      let all = all_enroll b b.agents shape (omega arith) in
      let m = run_of b (enrolments {N = N} b.agents) in
      let quiet = quiet_enrolments (new_machine b) no_ids b.agents in
      project-append (new_machine b) no_ids (enrolments b.agents) (seeding seed)
      ∙ ((λ i. quiet.0 i ++ project_from m (quiet.1 i) (seeding seed))
      ∙ (steps_project m no_ids (seeding seed) all.full (seeding_lawful b seed shape roots)
      ∙ (ap (λ z. project_world z no_ids (seeding seed)) (enrolled_world b seed shape) ∙ seed_events b seed)))

  plain_seeding : (seed : Seed N) → StoresUnmarked (seeding seed)
  plain_seeding Empty = tt
  plain_seeding (Dummy first begin) = (tt, (tt, (tt, (tt, (tt, (tt, (tt, (tt, (tt, (tt, (tt, (tt, (tt, (tt, tt))))))))))))))

  plain_enrolments : (n : ℕ) (more : List (Step N)) → StoresUnmarked more → StoresUnmarked (enrolments n ++ more)
  plain_enrolments zero more p = p
  plain_enrolments (suc n) more p = subst StoresUnmarked (sym (append_assoc (enrolments n) (does n Enroll None ∷ []) more))
      (plain_enrolments n (does n Enroll None ∷ more) (tt, p))

  pub opening_plain : (n : ℕ) (seed : Seed N) → StoresUnmarked (machine_opening n seed)
  opening_plain n seed = plain_enrolments n (seeding seed) (plain_seeding seed)

  below_seeding : (n : ℕ) (seed : Seed N) → 0 < n → AgentsBelow (λ (s : Step N). s.agent) n (seeding seed)
  below_seeding n Empty lt = tt
  below_seeding n (Dummy first begin) lt = (lt, (lt, (lt, (lt, (lt, (lt, (lt, (lt, (lt, (lt, (lt, (lt, (lt, (lt, tt))))))))))))))

  below_enrolments : (n m : ℕ) (more : List (Step N)) → m ≤ n → AgentsBelow (λ (s : Step N). s.agent) n more
      → AgentsBelow (λ (s : Step N). s.agent) n (enrolments m ++ more)
  below_enrolments n zero more le b = b
  below_enrolments n (suc m) more le b = subst (AgentsBelow (λ (s : Step N). s.agent) n) (sym (append_assoc (enrolments m) (does m Enroll None ∷ []) more))
      (below_enrolments n m (does m Enroll None ∷ more) (omega arith) (omega arith, b))

  pub opening_below : (n : ℕ) (seed : Seed N) → 0 < n → AgentsBelow (λ (s : Step N). s.agent) n (machine_opening n seed)
  opening_below n seed lt = below_enrolments n n (seeding seed) (omega arith) (below_seeding n seed lt)

  own_past : (n a : ℕ) (ss : List (Step N)) → n ≤ a → AgentsBelow (λ (s : Step N). s.agent) n ss → own_of (λ (s : Step N). s.agent) a ss ≡ []
  own_past n a [] le b = refl
  own_past n a (s ∷ ss) le b = let lt = b.0 in by_other (λ (z : Step N). z.agent) a s ss (λ e. omega (arith, e, lt, le)) ∙ own_past n a ss le b.1

  -- the agents after agent 0 have enrolled, and done no more
  pub opening_born : (b : Bounds) (seed : Seed N) (a : ℕ) → IsShape b → 1 ≤ a → a < b.agents
      → record_at (run_of b (machine_opening b.agents seed)) a ≡ newcomer b.rows
  opening_born b seed a shape le lt =
      let all = all_enroll b b.agents shape (omega arith) in
      record_stays b (enrolments {N = N} b.agents) (seeding seed) a (own_past 1 a (seeding seed) le (below_seeding 1 seed (omega arith)))
      ∙ (ap (λ (z : World). z.seats a) all.world ∙ ap (λ (t : Bool). cond t (newcomer b.rows) (nobody b.rows)) (lt-ltb a b.agents lt))

  -- each agent then has nothing
  pub opening_nothing : (b : Bounds) (seed : Seed N) (a : ℕ) → IsShape b → HasRoots (numbers_of b) seed → a < b.agents
      → HasNothing (record_at (run_of b (machine_opening b.agents seed)) a)
  opening_nothing b seed zero shape roots lt =
      let all = all_enroll b b.agents shape (omega arith) in
      let m = run_of b (enrolments {N = N} b.agents) in
      let left = steps_run m (seeding seed) all.full (seeding_lawful b seed shape roots) ∙ ap (λ z. run_world z (seeding seed)) (enrolled_world b seed shape) in
      let whole = run_more b (enrolments {N = N} b.agents) (seeding seed) in
      subst (λ (z : Machine). HasNothing (record_at z 0)) (sym whole) (subst (λ (z : World). HasNothing (z.seats 0)) (sym left) (seed_nothing b seed))
  opening_nothing b seed (suc a) shape roots lt = subst HasNothing (sym (opening_born b seed (suc a) shape (omega arith) lt)) (new_nothing b.rows)

module _ {D N : Type 0} (d : discipline.Ghosts D N) (k : MachineShape N) (began : d.holds (heap_numbers k) []) where
  abbrev may_be : List (Event N) → Event N → Type 0
  may_be = d.may (heap_numbers k)

  abbrev holds_so : List (Event N) → Type 0
  holds_so = d.holds (heap_numbers k)

  seed_allowed : (seed : Seed N) → SeedAllowed d.may (heap_numbers k) seed → AllAllowed may_be [] (opening_events seed)
  seed_allowed Empty can = tt
  seed_allowed (Dummy first begin) can =
      let e0 : Event N = opening_event act.Give None in
      let e1 : Event N = opening_event (act.Fill 0 0 0) None in
      let e2 : Event N = opening_event (act.Fill 0 1 first) None in
      let m0 : may_be [] e0 = d.allows_plain (heap_numbers k) [] e0 began tt (refl, tt) in
      let h1 : holds_so (e0 ∷ []) = d.keeps (heap_numbers k) [] e0 began m0 in
      let m1 : may_be (e0 ∷ []) e1 = d.allows_plain (heap_numbers k) (e0 ∷ []) e1 h1
      (record { node = new_node 0; there = refl; mine = refl; unlinked = refl }, omega arith) (refl, tt) in
      let h2 : holds_so (e0 ∷ e1 ∷ []) = d.keeps (heap_numbers k) (e0 ∷ []) e1 h1 m1 in
      let m2 : may_be (e0 ∷ e1 ∷ []) e2 = d.allows_plain (heap_numbers k) (e0 ∷ e1 ∷ []) e2 h2
      (record { node = with_value 0 0 (new_node 0); there = refl; mine = refl; unlinked = refl }, omega arith) (refl, tt) in
      (m0, (m1, (m2, (can.first_link, (can.second_link, tt)))))

  pub seed_roots : (seed : Seed N) → SeedAllowed d.may (heap_numbers k) seed → HasRoots (heap_numbers k) seed
  seed_roots Empty can = tt
  seed_roots (Dummy first begin) can = can.roots

  -- the opening is one with which shared words may begin
  pub opens : SeedAllowed d.may (heap_numbers k) k.seed → OpensLawfully counted_rules k holds_so may_be
  opens can =
      let b = bounds_in k in
      let shape = in_range k.shape in
      let roots = seed_roots k.seed can in
      let each = subst (AllAllowed may_be []) (sym (opened_events b k.seed shape roots)) (seed_allowed k.seed can) in
      let some = k.shape.some_agents in record {
        lawful = (opening_lawful b k.seed shape roots, opening_plain b.agents k.seed);
        each = each;
        kept = stays may_be holds_so (λ es e h m. d.keeps (heap_numbers k) es e h m) [] (project b (machine_opening b.agents k.seed)) began each;
        below = opening_below b.agents k.seed some;
        someone = some;
        born = λ a le lt. opening_born b k.seed a shape le lt;
      }

-- the next agent may enroll
pub enrolling_goes : (shape : Shape) (m : Machine) (n : ℕ) → n < (bounds_of shape).agents → m ≡ run_of (bounds_of shape) (enrolments {N = Unit {0}} n)
    → PlaysOn (bounds_of shape) m ((n, Enroll) ∷ [])
enrolling_goes shape m n lt e =
    let b = bounds_of shape in
    let all = all_enroll {N = Unit {0}} b (suc n) (in_range shape) (omega arith) in
    record {
      shape = in_range shape;
      before = plain (enrolments {N = Unit {0}} n);
      is = e;
      lawful = subst (IsLawful (new_machine b)) (plain-append (enrolments {N = Unit {0}} n) (does n Enroll None ∷ []))
          (plain_lawful (new_machine b) (enrolments {N = Unit {0}} (suc n)) all.lawful);
    }

plain_same : (N M : Type 0) (n : ℕ) → plain (enrolments {N = N} n) ≡ plain (enrolments {N = M} n)
plain_same N M zero = refl
plain_same N M (suc n) = plain-append (enrolments {N = N} n) (does n Enroll None ∷ [])
    ∙ (ap (λ l. l ++ (n, Enroll) ∷ []) (plain_same N M n) ∙ sym (plain-append (enrolments {N = M} n) (does n Enroll None ∷ [])))

module _ {N : Type 0} (shape : Shape) (seed : Seed N) (roots : HasRoots (numbers_of (bounds_of shape)) seed) (m : Machine)
    (e : m ≡ run_of (bounds_of shape) (enrolments {N = Unit {0}} (bounds_of shape).agents)) where
  abbrev c : Bounds
  c = bounds_of shape

  enrolled_as : m ≡ run_of c (enrolments {N = N} c.agents)
  enrolled_as = e ∙ ap (run (new_machine c)) (plain_same (Unit {0}) N c.agents)

  -- then the steps for the seed go on
  pub seeding_goes : PlaysOn c m (plain (seeding seed))
  seeding_goes = record {
    shape = in_range shape;
    before = plain (enrolments {N = N} c.agents);
    is = enrolled_as;
    lawful = subst (IsLawful (new_machine c)) (plain-append (enrolments {N = N} c.agents) (seeding seed))
        (plain_lawful (new_machine c) (machine_opening c.agents seed) (opening_lawful c seed (in_range shape) roots));
  }

  pub seeded : run m (plain (seeding seed)) ≡ run_of c (machine_opening c.agents seed)
  seeded = ap (λ (z : Machine). run z (plain (seeding seed))) enrolled_as ∙ sym (run_more c (enrolments {N = N} c.agents) (seeding seed))

module _ {N : Type 0} (k r : MachineShape N) (same : r ≡ k) (holds : List (Event N) → Type 0) (may_be : List (Event N) → Event N → Type 0)
    (o : OpensLawfully counted_rules k holds may_be) (began : holds []) (v : View (Step N) Agent) (a : ℕ)
    (is : v.agent ≡ Some a) (below : a < (bounds_in k).agents) (seen : v.seen ≡ machine_opening (bounds_in k).agents k.seed) (also : v.also ≡ [])
    (own : v.own ≡ record_at (run_of (bounds_in k) (machine_opening (bounds_in k).agents k.seed)) a) where
  -- a new pass
  pub new_keeps : Keeps k holds may_be v a
  new_keeps = record { is = is; number = below; began = began; now = new_pass_later counted_rules k holds may_be v a o seen also own }

pub long_words : {N : Type 0} (b : Bounds) (j : List (Step N)) → IsShape b → length (run_of b j).words ≡ places b
long_words b j shape = (every_run_whole b (plain j) shape).words ∙ ap places (bounds_run b j)
