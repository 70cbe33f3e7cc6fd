-- The parts of a settling follow one another.
use Rattle.std.proofs.Common.{List, [], ap, append-nil, append_assoc, arith, inl, inr, refl, suc, subst, sym, zero, ℕ, ◌*◌, ◌++◌, ◌+◌, ◌-◌, ◌<◌, ◌∙◌, ◌∷◌, ◌≡◌, ◌≢◌, ◌≤◌, ◌⊎◌}
use Rattle.std.proofs.Math.Nat.{suc-mul}
use Rattle.std.specs.Prelude.{map}
use Rattle.orc_machine_rest.specs.OwnSteps.{FirstIs, LeavesNothing, TakesInCleared, ops_of}
use Rattle.orc_machine_rest.specs.Parts.{SawSteps, Goes, MakesRounds, NoEvents, OpensTurn, Settles}
use Rattle.orc_core.specs.Machine.{record_at}
use Rattle.orc_core.specs.declared.ops.Op.{Op}
use Rattle.orc_core.specs.declared.ops.Op.TheVariants.{Clear, TakeIn}
use Rattle.orc_machine_board.specs.Passes.{steps_of}
use Rattle.orc_machine_board.specs.Rules.{run_of}
use Rattle.orc_machine_board.specs.Views.{MachineView}
use Rattle.orc_projection.specs.Projection.{project}
use Rattle.orc_rest.proofs.Opening.{opened_less, opened_more, opened_went, settled_first, settled_none}
use Rattle.orc_rest.proofs.Rounds.{rounds_done, rounds_made}
use Rattle.orc_rest.proofs.Stages.{went_join, went_none}
use Rattle.orc_rest.specs.Records.{IsBetweenRounds, IsDone}
use Rattle.orc_rest.specs.Turns.{IsReachedState}
use Rattle.orc_shared_words.proofs.Events.{none-append}
use Rattle.orc_shared_words.proofs.Runs.{own_of-append}
use Rattle.orc_sound.proofs.Journals.{plain-append}
use Rattle.orc_sound.specs.declared.steps.Step.{Step}
use Rattle.orc_words.specs.Bounds.{Bounds}

-- what was taken in stays so as more steps are made
begins_more : (op : Op) (xs ys : List Op) → FirstIs op xs → FirstIs op (xs ++ ys)
begins_more op [] ys h = absurd h
begins_more op (x ∷ xs) ys h = h

pub takes_in_both : (xs ys : List Op) → TakesInCleared xs → TakesInCleared ys → TakesInCleared (xs ++ ys)
takes_in_both [] ys h g = g
takes_in_both (Clear slot ∷ xs) ys h g = (begins_more (TakeIn slot) xs ys h.0, takes_in_both xs ys h.1 g)
takes_in_both (x ∷ xs) ys h g = takes_in_both xs ys h g

-- one round of k more, after some
pub rounds_last : (i k x y z : ℕ) → y ≤ x + i * k → z ≤ y + k → z ≤ x + (i + 1) * k
rounds_last i k x y z p q =
    let m = suc-mul i k in
    let next : i + 1 ≡ suc i = omega arith in
    let same : (i + 1) * k ≡ suc i * k = ap (λ j. j * k) next in
    omega (arith, m, same, p, q)

-- some rounds are no more than all of them
pub rounds_within : (i n k x y : ℕ) → i ≤ n → y ≤ x + i * k → y ≤ x + n * k
rounds_within zero n k x y le p = omega (arith, p)
rounds_within (suc i) zero k x y le p = absurd (omega (arith, le))
rounds_within (suc i) (suc n) k x y le p =
    let some = suc-mul i k in
    let all = suc-mul n k in
    let less : i ≤ n = omega (arith, le) in
    let rest : y ≤ (x + k) + i * k = omega (arith, some, p) in
    let q = rounds_within i n k (x + k) y less rest in
    omega (arith, all, q)

-- one round of k more, and then the others
pub rounds_add : (left n k x y z : ℕ) → n ≢ 0 → left ≡ n - 1 → y ≤ x + k → z ≤ y + left * k → z ≤ x + n * k
rounds_add left zero k x y z ne e p q = absurd (ne refl)
rounds_add left (suc n) k x y z ne e p q =
    let m = suc-mul n k in
    let less : left ≡ n = omega (arith, e) in
    let same : left * k ≡ n * k = ap (λ i. i * k) less in
    omega (arith, m, same, p, q)

map-append : {A B : Type 0} (f : A → B) (xs ys : List A) → map f (xs ++ ys) ≡ map f xs ++ map f ys
map-append f [] ys = refl
map-append f (x ∷ xs) ys = ap (λ l. f x ∷ l) (map-append f xs ys)

module _ {N : Type 0} where
  pub ops-append : (a : ℕ) (xs ys : List (Step N)) → ops_of a (xs ++ ys) ≡ ops_of a xs ++ ops_of a ys
  ops-append a xs ys = ap (map (λ (s : Step N). s.op)) (own_of-append (λ (s : Step N). s.agent) a xs ys)
      ∙ map-append (λ (s : Step N). s.op) (steps_of a xs) (steps_of a ys)

  pub quiet_none : (b : Bounds) (a : ℕ) (j : List (Step N)) → NoEvents b a j j
  quiet_none b a j = record { events = []; is = sym (append-nil (project b j)); own = refl }

  pub quiet_then : (b : Bounds) (a : ℕ) (x y z : List (Step N)) → NoEvents b a x y → NoEvents b a y z → NoEvents b a x z
  quiet_then b a x y z p q = record {
    events = p.events ++ q.events;
    is = q.is ∙ (ap (λ l. l ++ q.events) p.is ∙ append_assoc (project b x) p.events q.events);
    own = none-append a p.events q.events p.own q.own;
  }

  pub adds_none : (b : Bounds) (a : ℕ) (s : MachineView N) → SawSteps b a [] s s
  adds_none b a s = record { part = []; journal = sym (append-nil s.journal); steps_are = refl; quiet = quiet_none b a s.journal; taken_in = tt }

  pub adds_then : (b : Bounds) (a : ℕ) (xs ys : List (ℕ × Op)) (s t u : MachineView N) → SawSteps b a xs s t → SawSteps b a ys t u → SawSteps b a (xs ++ ys) s u
  adds_then b a xs ys s t u p q = record {
    part = p.part ++ q.part;
    journal = q.journal ∙ (ap (λ l. l ++ q.part) p.journal ∙ append_assoc s.journal p.part q.part);
    steps_are = plain-append p.part q.part ∙ (λ i. p.steps_are i ++ q.steps_are i);
    quiet = quiet_then b a s.journal t.journal u.journal p.quiet q.quiet;
    taken_in = subst TakesInCleared (sym (ops-append a p.part q.part)) (takes_in_both (ops_of a p.part) (ops_of a q.part) p.taken_in q.taken_in);
  }

  pub adds_as : (b : Bounds) (a : ℕ) (xs ys : List (ℕ × Op)) (s t : MachineView N) → xs ≡ ys → SawSteps b a xs s t → SawSteps b a ys s t
  adds_as b a xs ys s t e p = subst (λ z. SawSteps b a z s t) e p

  pub adds_leaves : (b : Bounds) (a : ℕ) (xs : List (ℕ × Op)) (s t : MachineView N) → SawSteps b a xs s t → LeavesNothing a s.journal t.journal
  adds_leaves b a xs s t p = record { ops = ops_of a p.part; done = record { part = p.part; is = p.journal; own = refl }; taken_in = p.taken_in }

  pub goes_none : (b : Bounds) (a : ℕ) (s : MachineView N) → IsReachedState (run_of b s.journal) → Goes b a 0 s s
  goes_none b a s r = record { went = went_none a (run_of b s.journal) r; adds = adds_none b a s }

  pub goes_then : (b : Bounds) (a x y : ℕ) {s t u : MachineView N} → Goes b a x s t → Goes b a y t u → Goes b a (x + y) s u
  goes_then b a x y {s} {t} {u} p q = record {
    went = went_join a x y (run_of b s.journal) (run_of b t.journal) (run_of b u.journal) p.went q.went;
    adds = adds_then b a p.went.turn.steps q.went.turn.steps s t u p.adds q.adds;
  }

  pub goes_is : (b : Bounds) (a x y : ℕ) {s t : MachineView N} → x ≡ y → Goes b a x s t → Goes b a y s t
  goes_is b a x y {s} {t} e p = subst (λ z. Goes b a z s t) e p

  pub opens_then : (b : Bounds) (a x y : ℕ) {s t u : MachineView N} → OpensTurn b a x s t → Goes b a y t u → OpensTurn b a (x + y) s u
  opens_then b a x y {s} {t} {u} p q = record {
    opened = opened_more a x y (run_of b s.journal) (run_of b t.journal) (run_of b u.journal) p.opened q.went;
    adds =
        let o = p.opened in
        let first = o.made.others ++ (a, o.op) ∷ [] in
        adds_as b a _ _ s u (append_assoc first o.went.turn.steps q.went.turn.steps)
        (adds_then b a (first ++ o.went.turn.steps) q.went.turn.steps s t u p.adds q.adds);
  }

  pub opens_less : (b : Bounds) (a x y : ℕ) {s t : MachineView N} → y ≤ x → OpensTurn b a x s t → OpensTurn b a y s t
  opens_less b a x y {s} {t} h p = record { opened = opened_less a x y (run_of b s.journal) (run_of b t.journal) h p.opened; adds = p.adds }

  -- it is a turn as a whole
  pub opens_goes : (b : Bounds) (a x : ℕ) (s t : MachineView N) → IsReachedState (run_of b s.journal) → OpensTurn b a x s t → Goes b a x s t
  opens_goes b a x s t r p = record { went = opened_went a x (run_of b s.journal) (run_of b t.journal) r p.opened; adds = p.adds }

  -- what opens a turn opens one with what was before it, if that was nothing or an opening itself
  pub opens_next : (b : Bounds) (a y : ℕ) {s t u : MachineView N} → (t ≡ s) ⊎ OpensTurn b a 0 s t → IsReachedState (run_of b t.journal)
      → OpensTurn b a y t u → OpensTurn b a y s u
  opens_next b a y {s} {t} {u} (inl e) r q = subst (λ z. OpensTurn b a y z u) e q
  opens_next b a y {s} {t} {u} (inr p) r q = opens_less b a (0 + y) y (omega arith) (opens_then b a 0 y p (opens_goes b a y t u r q))

  -- as many rounds as there were to make
  pub rounds_all : (b : Bounds) (a left : ℕ) (s t : MachineView N) → Goes b a left s t → MakesRounds b a left s t
  rounds_all b a left s t p = record { rounds = rounds_made a left (run_of b s.journal) (run_of b t.journal) p.went; adds = p.adds }

  -- rounds after which nothing is left
  pub rounds_over : (b : Bounds) (a x left : ℕ) (s t : MachineView N) → Goes b a x s t → IsDone (record_at (run_of b t.journal) a)
      → MakesRounds b a left s t
  rounds_over b a x left s t p done = record { rounds = rounds_done a x left (run_of b s.journal) (run_of b t.journal) p.went done; adds = p.adds }

  -- a first round, and as many as are left
  pub settles_first : (b : Bounds) (a left : ℕ) (s t u : MachineView N) → IsReachedState (run_of b s.journal) → a < (run_of b s.journal).bounds.agents
      → IsBetweenRounds (record_at (run_of b s.journal) a)
      → left ≡ 4 * ((run_of b s.journal).bounds.rows + 8 * (run_of b s.journal).bounds.agents) - 1
      → 1 ≤ 4 * ((run_of b s.journal).bounds.rows + 8 * (run_of b s.journal).bounds.agents) → OpensTurn b a 1 s t → MakesRounds b a left t u → Settles b a s u
  settles_first b a left s t u r low between is big p q =
      let o = p.opened in
      let first = o.made.others ++ (a, o.op) ∷ [] in record {
        settled = settled_first (run_of b s.journal) (run_of b t.journal) (run_of b u.journal) a left r low between is big o q.rounds;
        adds = adds_as b a ((first ++ o.went.turn.steps) ++ q.rounds.steps) (first ++ (o.went.turn.steps ++ q.rounds.steps)) s u
            (append_assoc first o.went.turn.steps q.rounds.steps) (adds_then b a (first ++ o.went.turn.steps) q.rounds.steps s t u p.adds q.adds);
      }

  pub settles_none : (b : Bounds) (a : ℕ) (s : MachineView N) → IsDone (record_at (run_of b s.journal) a) → Settles b a s s
  settles_none b a s done = record { settled = settled_none a (run_of b s.journal) done; adds = adds_none b a s }
