-- Passes that stay ready.
use Rattle.std.proofs.Common.{List, [], ap, ap₂, append-nil, arith, length, refl, subst, sym, zero, suc, ℕ, ◌+◌, ◌++◌, ◌<◌, ◌∙◌, ◌∷◌, ◌≡◌}
use Rattle.std.proofs.lemmas.Bool.{ltb-false, ltb-true}
use Rattle.std.specs.Prelude.{All, Bool, false, if◌then◌else◌, nat_lt, slice_index_or, true, ◌*◌, ◌-◌, ◌≤◌}
use Rattle.std.specs.List.{AllByRecursion}
use Rattle.orc_stress.specs.Answers.{calls_of, summed}
use Rattle.orc_stress.specs.declared.tally.Answers.{Answers}
use Rattle.orc_stress.specs.Parts.{calls_of_agent, calls_of_agents}
use Rattle.orc_stress.specs.Passes.{AllStay, AreReady, Stay, Stays}
use Rattle.orc_stress.specs.declared.load.Plan.{Plan}

-- what holds of all holds of the front and of the last one
pub all_front : {X : Type 0} (P : X → Type 0) (xs : List X) (x : X) → AllByRecursion P (xs ++ x ∷ []) → AllByRecursion P xs
all_front P [] x h = tt
all_front P (y ∷ ys) x h = (h.0, all_front P ys x h.1)

pub all_last : {X : Type 0} (P : X → Type 0) (xs : List X) (x : X) → AllByRecursion P (xs ++ x ∷ []) → P x
all_last P [] x h = h.0
all_last P (y ∷ ys) x h = all_last P ys x h.1

-- what holds of all holds of the one that stood last
pub last_of : {X : Type 0} (P : X → Type 0) (all front : List X) (x : X) → AllByRecursion P all → all ≡ front ++ x ∷ [] → P x
last_of P all front x h is = all_last P front x (subst (AllByRecursion P) is h)

-- the calls of one agent are few
picked_few : (works : Bool) (calls most : ℕ) → calls ≤ most → (if works then calls else 0) ≤ most
picked_few true calls most h = h
picked_few false calls most h = omega arith

-- what the agent of this number adds to the calls of those behind it
one_part : (works : Bool) (threads k calls : ℕ) → nat_lt k threads ≡ works → (if works then calls else 0) + (threads - (k + 1)) * calls ≡ (threads - k) * calls
one_part true threads k calls e =
    let below : k < threads = ltb-true k threads e in
    let more : threads - k ≡ suc (threads - (k + 1)) = omega (arith, below) in
    rw more (omega arith)
one_part false threads k calls e =
    let above : threads ≤ k = ltb-false k threads e in
    let none : threads - k ≡ 0 = omega (arith, above) in
    let no_more : threads - (k + 1) ≡ 0 = omega (arith, above) in
    rw (none, no_more) (omega arith)

-- the calls of two
pub calls_summed : (a b : Answers) → calls_of (summed a b) ≡ calls_of a + calls_of b
calls_summed a b = omega arith

module _ {P : Type 0} (ready : P → Type 0) (agent : P → ℕ) where
  -- ready passes that nobody uses stay ready
  pub all_same : (xs : List P) → AllByRecursion ready xs → AllStay ready agent xs xs
  all_same [] h = tt
  all_same (x ∷ xs) h = (record { is_ready = h.0; same = refl }, all_same xs h.1)

  pub one_more : (xs ys : List P) (x y : P) → AllStay ready agent xs ys → Stays ready agent x y → AllStay ready agent (xs ++ x ∷ []) (ys ++ y ∷ [])
  one_more [] [] x y h s = (s, tt)
  one_more (a ∷ xs) (b ∷ ys) x y h s = (h.0, one_more xs ys x y h.1 s)
  one_more [] (b ∷ ys) x y h s = absurd h
  one_more (a ∷ xs) [] x y h s = absurd h

  pub twice : (xs ys zs : List P) → AllStay ready agent xs ys → AllStay ready agent ys zs → AllStay ready agent xs zs
  twice [] [] [] h k = tt
  twice (x ∷ xs) (y ∷ ys) (z ∷ zs) h k = (record { is_ready = k.0.is_ready; same = k.0.same ∙ h.0.same }, twice xs ys zs h.1 k.1)
  twice [] (y ∷ ys) zs h k = absurd h
  twice (x ∷ xs) [] zs h k = absurd h
  twice [] [] (z ∷ zs) h k = absurd k
  twice (x ∷ xs) (y ∷ ys) [] h k = absurd k

  -- all of them are ready
  pub each_of : (xs ys : List P) → AllStay ready agent xs ys → AllByRecursion ready ys
  each_of [] [] h = tt
  each_of (x ∷ xs) (y ∷ ys) h = (h.0.is_ready, each_of xs ys h.1)
  each_of [] (y ∷ ys) h = absurd h
  each_of (x ∷ xs) [] h = absurd h

  -- as many as before
  pub stay_long : (xs ys : List P) → AllStay ready agent xs ys → length ys ≡ length xs
  stay_long [] [] h = refl
  stay_long (x ∷ xs) (y ∷ ys) h = ap suc (stay_long xs ys h.1)
  stay_long [] (y ∷ ys) h = absurd h
  stay_long (x ∷ xs) [] h = absurd h

  -- the calls of their agents are the same
  pub parts_still : (plan : Plan) (xs ys : List P) → AllStay ready agent xs ys → calls_of_agents plan agent ys ≡ calls_of_agents plan agent xs
  parts_still plan [] [] h = refl
  parts_still plan (x ∷ xs) (y ∷ ys) h = ap₂ ◌+◌ (ap (calls_of_agent plan) h.0.same) (parts_still plan xs ys h.1)
  parts_still plan [] (y ∷ ys) h = absurd h
  parts_still plan (x ∷ xs) [] h = absurd h

  -- each at its place
  pub stay_at : (xs ys : List P) → AllStay ready agent xs ys → (i : ℕ) (p q : P) → i < length xs
      → Stays ready agent (slice_index_or xs i p) (slice_index_or ys i q)
  stay_at [] [] h i p q below = absurd (omega (arith, below))
  stay_at (x ∷ xs) (y ∷ ys) h zero p q below = h.0
  stay_at (x ∷ xs) (y ∷ ys) h (suc i) p q below = stay_at xs ys h.1 i p q (omega (arith, below))
  stay_at [] (y ∷ ys) h i p q below = absurd h
  stay_at (x ∷ xs) [] h i p q below = absurd h

  -- passes of the first agents stay those
  pub first_stay : (xs ys : List P) → AreReady ready agent xs → AllStay ready agent xs ys → AreReady ready agent ys
  first_stay xs ys all stay =
      let long = stay_long xs ys stay in
      record {
        each = λ i p below. (stay_at xs ys stay i p p (subst (λ (n : ℕ). i < n) long below)).is_ready;
        order = λ i p below. (stay_at xs ys stay i p p (subst (λ (n : ℕ). i < n) long below)).same
            ∙ all.order i p (subst (λ (n : ℕ). i < n) long below);
      }

  -- and each of them is ready
  pub all_ready : (xs : List P) → All ready xs → AllByRecursion ready xs
  all_ready [] h = tt
  all_ready (x ∷ xs) h = (h 0 x (omega arith), all_ready xs (λ i p below. h (suc i) p (omega (arith, below))))

  -- one agent more
  pub parts_more : (plan : Plan) (xs : List P) (x : P) → calls_of_agents plan agent (xs ++ x ∷ []) ≡ calls_of_agents plan agent xs + calls_of_agent plan (agent x)
  parts_more plan [] x = omega arith
  parts_more plan (y ∷ ys) x = let more = parts_more plan ys x in omega (arith, more)

  -- the calls of few agents are few
  pub parts_few : (plan : Plan) (xs : List P) → calls_of_agents plan agent xs ≤ length xs * 4294967296
  parts_few plan [] = omega arith
  parts_few plan (x ∷ xs) =
      let more = parts_few plan xs in
      let one = picked_few (nat_lt (agent x) plan.threads) plan.load.calls 4294967296 (omega (arith, plan.load.few_calls)) in
      omega (arith, more, one)

  -- passes that nobody used
  pub each_stays : (xs : List P) → AllByRecursion ready xs → Stay ready agent xs xs
  each_stays xs h = record { all = all_same xs h }

  -- of passes none was taken
  pub none_stays : (old new : List P) → AllByRecursion ready old → old ≡ new ++ [] → Stay ready agent old new
  none_stays old new h is = subst (λ (xs : List P). Stay ready agent old xs) (is ∙ append-nil new) (each_stays old h)

  -- the last one was used
  pub last_stays : (old new ws : List P) (x y : P) → AllByRecursion ready old → old ≡ ws ++ x ∷ [] → new ≡ ws ++ y ∷ [] → Stays ready agent x y
      → Stay ready agent old new
  last_stays old new ws x y h was is s =
      let all = subst (λ (xs : List P). AllByRecursion ready xs) was h in
      let stay = one_more ws ws x y (all_same ws (all_front ready ws x all)) s in
      record { all = subst (λ (xs : List P). AllStay ready agent xs new) (sym was) (subst (λ (xs : List P). AllStay ready agent (ws ++ x ∷ []) xs) (sym is) stay) }

  pub stay_ready : (xs ys : List P) → Stay ready agent xs ys → AllByRecursion ready ys
  stay_ready xs ys h = each_of xs ys h.all

  pub stay_twice : (xs ys zs : List P) → Stay ready agent xs ys → Stay ready agent ys zs → Stay ready agent xs zs
  stay_twice xs ys zs h k = record { all = twice xs ys zs h.all k.all }

  pub stay_parts : (plan : Plan) (xs ys : List P) → Stay ready agent xs ys → calls_of_agents plan agent ys ≡ calls_of_agents plan agent xs
  stay_parts plan xs ys h = parts_still plan xs ys h.all

  -- passes of the first agents stay those
  pub first_agents_stay : (xs ys : List P) → AreReady ready agent xs → Stay ready agent xs ys → AreReady ready agent ys
  first_agents_stay xs ys all stay = first_stay xs ys all stay.all

  pub as_many_stay : (xs ys : List P) → Stay ready agent xs ys → length ys ≡ length xs
  as_many_stay xs ys stay = stay_long xs ys stay.all

  pub first_ready : (xs : List P) → AreReady ready agent xs → AllByRecursion ready xs
  first_ready xs h = all_ready xs h.each

  -- the calls of agents from this number on, among which are all that work
  parts_from : (plan : Plan) (k : ℕ) (xs : List P) → ((i : ℕ) (p : P) → i < length xs → agent (slice_index_or xs i p) ≡ k + i)
      → plan.threads ≤ k + length xs → calls_of_agents plan agent xs ≡ (plan.threads - k) * plan.load.calls
  parts_from plan k [] order enough =
      let none : plan.threads - k ≡ 0 = omega (arith, enough) in
      rw none (omega arith)
  parts_from plan k (x ∷ xs) order enough =
      let first : agent x ≡ k = omega (arith, order 0 x (omega arith)) in
      let rest = parts_from plan (k + 1) xs (λ i p below. omega (arith, order (suc i) p (omega (arith, below)))) (omega (arith, enough)) in
      ap₂ ◌+◌ (ap (calls_of_agent plan) first) rest ∙ one_part (nat_lt k plan.threads) plan.threads k plan.load.calls refl

  -- the calls of the first agents, among which are all that work
  pub parts_all : (plan : Plan) (xs : List P) → AreReady ready agent xs → plan.threads ≤ length xs
      → calls_of_agents plan agent xs ≡ plan.threads * plan.load.calls
  parts_all plan xs all enough =
      let all_work = parts_from plan 0 xs (λ i p below. omega (arith, all.order i p below)) (omega (arith, enough)) in
      let whole : plan.threads - 0 ≡ plan.threads = omega arith in
      all_work ∙ ap (λ n. n * plan.load.calls) whole
