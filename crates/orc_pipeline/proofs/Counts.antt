-- How many Puts stand in a history, agent by agent, and how many items a list has, key by key.
use Rattle.std.proofs.Common.{◌≡◌, ◌≢◌, ℕ, zero, suc, ◌+◌, ◌≤◌, ◌<◌, arith, List, [], ◌∷◌, length, length-append, Bool, true, false, cond, ◌==◌, filter, inl, inr, refl, ap, sym, ◌∙◌, subst}
use Rattle.std.specs.List.{AllByRecursion}
use Rattle.orc_history.specs.declared.queue.QueueEntry.{QueueEntry}
use Rattle.orc_history.specs.declared.queue.QueueEntry.TheVariants.{Put, Took, Empty}
use Rattle.orc_history.specs.QueueHistory.{agent_of_entry, puts_in}
use Rattle.orc_board.specs.Stretches.{is_own_move}
use Rattle.orc_board.specs.Follows.{grouped_by_key}
use Rattle.orc_board.proofs.ListFacts.{AllByRecursion-append, le-cases, eq-yes, eq-no}
use Rattle.orc_stages.specs.Stage.{jobs_of}
use Rattle.orc_pipeline.specs.Pipeline.{jobs_by}

abbrev pub sum_to : ℕ → (ℕ → ℕ) → ℕ
sum_to zero f = 0
sum_to (suc n) f = sum_to n f + f n

sum_zero : (n : ℕ) → sum_to n (λ a. 0) ≡ 0
sum_zero zero = refl
sum_zero (suc n) = omega (arith, sum_zero n)

sum_same : (n : ℕ) (f g : ℕ → ℕ) → ((a : ℕ) → a < n → f a ≡ g a) → sum_to n f ≡ sum_to n g
sum_same zero f g h = refl
sum_same (suc n) f g h = omega (arith, sum_same n f g (λ a low. h a (omega (arith, low))), h n (omega arith))

pub sum_fewer : (n : ℕ) (f g : ℕ → ℕ) → ((a : ℕ) → a < n → f a ≤ g a) → sum_to n f ≤ sum_to n g
sum_fewer zero f g h = omega arith
sum_fewer (suc n) f g h = omega (arith, sum_fewer n f g (λ a low. h a (omega (arith, low))), h n (omega arith))

-- what is nothing above adds nothing
pub sum_above : (n m : ℕ) (f : ℕ → ℕ) → ((a : ℕ) → n ≤ a → f a ≡ 0) → sum_to (n + m) f ≡ sum_to n f
sum_above n zero f none = let e : n + 0 ≡ n = omega arith in rw e refl
sum_above n (suc m) f none =
    let e : n + suc m ≡ suc (n + m) = omega arith in
    rw e (omega (arith, sum_above n m f none, none (n + m) (omega arith)))

-- one more at one place
sum_more : (n by : ℕ) (f g : ℕ → ℕ) → by < n → f by ≡ suc (g by) → ((a : ℕ) → a ≢ by → f a ≡ g a) → sum_to n f ≡ suc (sum_to n g)
sum_more zero by f g low one same = absurd (omega (arith, low))
sum_more (suc n) by f g low one same = elim (le-cases n by) as (λ _. sum_to (suc n) f ≡ suc (sum_to (suc n) g)) [
  | inl high ↦
      let is : by ≡ n = omega (arith, low, high) in
      let here : f n ≡ suc (g n) = subst (λ (x : ℕ). f x ≡ suc (g x)) is one in
      let rest : sum_to n f ≡ sum_to n g = sum_same n f g (λ a less. same a (λ e. absurd (omega (arith, less, e, is)))) in
      omega (arith, here, rest)
  | inr less ↦
      let here : f n ≡ g n = same n (λ e. absurd (omega (arith, less, e))) in
      omega (arith, here, sum_more n by f g less one same)
]

took_counts : (by job at a : ℕ) (es : List QueueEntry) → length (jobs_by true a (Took by job at ∷ es)) ≡ length (jobs_by true a es)
took_counts by job at a es =
    let F : List QueueEntry = filter (is_own_move a) es in
    let cases : (b : Bool) → length (jobs_of true (cond b (Took by job at ∷ F) F)) ≡ length (jobs_of true F) = elim [ true ↦ refl | false ↦ refl ] in
    cases (by == a)

put_own : (by job at : ℕ) (es : List QueueEntry) → length (jobs_by true by (Put by job at ∷ es)) ≡ suc (length (jobs_by true by es))
put_own by job at es = rw (eq-yes by by refl) refl

put_other : (by job at a : ℕ) (es : List QueueEntry) → a ≢ by → length (jobs_by true a (Put by job at ∷ es)) ≡ length (jobs_by true a es)
put_other by job at a es other = let no : (by == a) ≡ false = eq-no by a (λ e. other (sym e)) in rw no refl

-- the Puts of agents below n, agent by agent
pub puts_by_agents : (n : ℕ) (es : List QueueEntry) → AllByRecursion (λ e. agent_of_entry e < n) es
    → length (jobs_of true es) ≡ sum_to n (λ a. length (jobs_by true a es))
puts_by_agents n [] below = sym (sum_zero n)
puts_by_agents n (Put by job at ∷ es) below =
    let more = sum_more n by (λ a. length (jobs_by true a (Put by job at ∷ es))) (λ a. length (jobs_by true a es)) below.0 (put_own by job at es)
    (λ a other. put_other by job at a es other) in
    ap suc (puts_by_agents n es below.1) ∙ sym more
puts_by_agents n (Took by job at ∷ es) below =
    puts_by_agents n es below.1
    ∙ sym (sum_same n (λ a. length (jobs_by true a (Took by job at ∷ es))) (λ a. length (jobs_by true a es)) (λ a low. took_counts by job at a es))
puts_by_agents n (Empty by ∷ es) below = puts_by_agents n es below.1

pub by_key_length : {X : Type 0} (key : X → ℕ) (n : ℕ) (xs : List X) → length (grouped_by_key key n xs) ≡ sum_to n (λ a. length (filter (λ x. key x == a) xs))
by_key_length key zero xs = refl
by_key_length {X} key (suc n) xs =
    omega (arith, by_key_length key n xs, length-append (grouped_by_key key n xs) (filter (λ (x : X). key x == n) xs))

pub all_by_key : {X : Type 0} (P : X → Type 0) (key : X → ℕ) (n : ℕ) (xs : List X) → ((a : ℕ) → a < n → AllByRecursion P (filter (λ x. key x == a) xs))
    → AllByRecursion P (grouped_by_key key n xs)
all_by_key P key zero xs h = tt
all_by_key {X} P key (suc n) xs h =
    AllByRecursion-append P (grouped_by_key key n xs) (filter (λ (x : X). key x == n) xs) (all_by_key P key n xs (λ a low. h a (omega (arith, low)))) (h n (omega arith))

pub puts_counted : (es : List QueueEntry) → puts_in es ≡ length (jobs_of true es)
puts_counted [] = refl
puts_counted (Put by job at ∷ es) = omega (arith, puts_counted es)
puts_counted (Took by job at ∷ es) = puts_counted es
puts_counted (Empty by ∷ es) = puts_counted es

-- what is true of each agent's own Puts is true of all
put_out : (P : ℕ → Type 0) (a : ℕ) (e : QueueEntry) (es : List QueueEntry) → AllByRecursion P (jobs_by true a (e ∷ es)) → AllByRecursion P (jobs_by true a es)
put_out P a (Put by job at) es h =
    let F : List QueueEntry = filter (is_own_move a) es in
    let cases : (b : Bool) → AllByRecursion P (jobs_of true (cond b (Put by job at ∷ F) F)) → AllByRecursion P (jobs_of true F) =
    elim [ true ↦ λ x. x.1 | false ↦ λ x. x ] in
    cases (by == a) h
put_out P a (Took by job at) es h =
    let F : List QueueEntry = filter (is_own_move a) es in
    let cases : (b : Bool) → AllByRecursion P (jobs_of true (cond b (Took by job at ∷ F) F)) → AllByRecursion P (jobs_of true F) =
    elim [ true ↦ λ x. x | false ↦ λ x. x ] in
    cases (by == a) h
put_out P a (Empty by) es h = h

pub puts_all : (P : ℕ → Type 0) (es : List QueueEntry) → ((a : ℕ) → AllByRecursion P (jobs_by true a es)) → AllByRecursion P (jobs_of true es)
puts_all P [] h = tt
puts_all P (Put by job at ∷ es) h =
    let here : AllByRecursion P (job ∷ jobs_by true by es) = rw (eq-yes by by refl) at (h by) in
    (here.0, puts_all P es (λ a. put_out P a (Put by job at) es (h a)))
puts_all P (Took by job at ∷ es) h = puts_all P es (λ a. put_out P a (Took by job at) es (h a))
puts_all P (Empty by ∷ es) h = puts_all P es h
