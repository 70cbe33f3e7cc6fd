-- Sums over the numbers below n.
use Rattle.std.proofs.Common.{Bool, ap, arith, cond, false, refl, suc, sym, true, zero, ℕ, ◌*◌, ◌+◌, ◌<◌, ◌≡◌, ◌≢◌, ◌≤◌}
use Rattle.std.proofs.lemmas.Bool.{cond-false, cond-true, eq-eqb, eqb-false, eqb-true, ltb-true, ne_eqb}
use Rattle.std.specs.Prelude.{nat_lt, ◌==◌}
use Rattle.orc_words.specs.Packed.{bit}
use Rattle.orc_core.specs.Sums.{sum_below}

pub sum_same : (n : ℕ) (f g : ℕ → ℕ) → ((i : ℕ) → i < n → f i ≡ g i) → sum_below n f ≡ sum_below n g
sum_same zero f g h = refl
sum_same (suc n) f g h = let e = sum_same n f g (λ i l. h i (omega arith)) in let k = h n (omega arith) in omega arith

pub sum_zero : (n : ℕ) (f : ℕ → ℕ) → ((i : ℕ) → f i ≡ 0) → sum_below n f ≡ 0
sum_zero zero f h = refl
sum_zero (suc n) f h = let e = sum_zero n f h in let g = h n in omega arith

pub sum_change : (n i : ℕ) (f g : ℕ → ℕ) → i < n → ((j : ℕ) → j ≢ i → f j ≡ g j) → sum_below n g + f i ≡ sum_below n f + g i
sum_change zero i f g l h = omega arith
sum_change (suc n) i f g l h = at_end n i f g l h (sum_change n i f g) (sum_same n f g)
  where
    at_end : (n i : ℕ) (f g : ℕ → ℕ) → i < suc n → ((j : ℕ) → j ≢ i → f j ≡ g j)
        → (i < n → ((j : ℕ) → j ≢ i → f j ≡ g j) → sum_below n g + f i ≡ sum_below n f + g i)
        → (((j : ℕ) → j < n → f j ≡ g j) → sum_below n f ≡ sum_below n g) → sum_below n g + g n + f i ≡ sum_below n f + f n + g i
    at_end n i f g l h before same = grind arith

pub sum_le : (n : ℕ) (f : ℕ → ℕ) → ((i : ℕ) → f i ≤ 1) → sum_below n f ≤ n
sum_le zero f h = omega arith
sum_le (suc n) f h = let e = sum_le n f h in let k = h n in omega arith

pick_other : {A : Type 0} (i j : ℕ) (v x : A) → j ≢ i → x ≡ cond (j == i) v x
pick_other i j v x h = sym (cond-false (j == i) v x (ne_eqb j i h))

pick_same : {A : Type 0} (i : ℕ) (v x : A) → cond (i == i) v x ≡ v
pick_same i v x = cond-true (i == i) v x (eq-eqb i i refl)

-- one new value changes the sum by the difference
pub sum_put : {A : Type 0} (n i : ℕ) (f : ℕ → A → ℕ) (m : ℕ → A) (v : A) → i < n → sum_below n (λ j. f j (cond (j == i) v (m j)))
    + f i (m i) ≡ sum_below n (λ j. f j (m j)) + f i v
sum_put n i f m v h =
    rw pick_same at (sum_change n i (λ j. f j (m j)) (λ j. f j (cond (j == i) v (m j))) h (λ j ne. ap (f j) (pick_other i j v (m j) ne)))

member_next : (n i : ℕ) (f : ℕ → ℕ) → i < suc n → (i < n → f i ≤ sum_below n f) → f i ≤ sum_below n f + f n
member_next n i f h before = grind arith

pub sum_member : (n i : ℕ) (f : ℕ → ℕ) → i < n → f i ≤ sum_below n f
sum_member zero i f h = omega arith
sum_member (suc n) i f h = member_next n i f h (sum_member n i f)

two_next : (n i j : ℕ) (f : ℕ → ℕ) → i < suc n → j < suc n → i ≢ j → (i < n → j < n → f i + f j ≤ sum_below n f) → (i < n → f i ≤ sum_below n f)
    → (j < n → f j ≤ sum_below n f) → f i + f j ≤ sum_below n f + f n
two_next n i j f h k d both left right = grind arith

pub sum_two : (n i j : ℕ) (f : ℕ → ℕ) → i < n → j < n → i ≢ j → f i + f j ≤ sum_below n f
sum_two zero i j f h k d = omega arith
sum_two (suc n) i j f h k d = two_next n i j f h k d (λ l m. sum_two n i j f l m d) (sum_member n i f) (sum_member n j f)

pub sum_mono : (n : ℕ) (f g : ℕ → ℕ) → ((i : ℕ) → i < n → f i ≤ g i) → sum_below n f ≤ sum_below n g
sum_mono zero f g h = omega arith
sum_mono (suc n) f g h = let e = sum_mono n f g (λ i l. h i (omega arith)) in let k = h n (omega arith) in omega arith

pub sum_add : (n : ℕ) (f g : ℕ → ℕ) → sum_below n (λ i. f i + g i) ≡ sum_below n f + sum_below n g
sum_add zero f g = refl
sum_add (suc n) f g = let e = sum_add n f g in omega arith

pub sum_swap : (n k : ℕ) (f : ℕ → ℕ → ℕ) → sum_below n (λ i. sum_below k (f i)) ≡ sum_below k (λ j. sum_below n (λ i. f i j))
sum_swap zero k f = sym (sum_zero k (λ j. 0) (λ j. refl))
sum_swap (suc n) k f = let e = sum_swap n k f in let a = sum_add k (λ j. sum_below n (λ i. f i j)) (f n) in omega arith

pub sum_times : (n c : ℕ) → sum_below n (λ i. c) ≡ c * n
sum_times zero c = omega arith
sum_times (suc n) c = let e = sum_times n c in omega arith

-- a number below the bound is met once, and another one never
meet_next : (n w : ℕ) → (n ≤ w → sum_below n (λ r. bit (w == r)) ≡ 0) → (w < n → sum_below n (λ r. bit (w == r)) ≡ 1)
    → (suc n ≤ w → sum_below n (λ r. bit (w == r)) + bit (w == n) ≡ 0) × (w < suc n → sum_below n (λ r. bit (w == r)) + bit (w == n) ≡ 1)
meet_next n w h k = cases (w == n) refl
  where
    cases : (t : Bool) → (w == n) ≡ t → (suc n ≤ w → sum_below n (λ r. bit (w == r)) + bit (w == n) ≡ 0)
        × (w < suc n → sum_below n (λ r. bit (w == r)) + bit (w == n) ≡ 1)
    cases true e = let f = eqb-true w n e in let g = ap bit e in (λ l. absurd (omega arith), λ l. let z = h (omega arith) in omega arith)
    cases false e = let f : w ≢ n = eqb-false w n e in let g = ap bit e in
        (λ l. let z = h (omega arith) in omega arith, λ l. let z = k (omega arith) in omega arith)

meets : (n w : ℕ) → (n ≤ w → sum_below n (λ r. bit (w == r)) ≡ 0) × (w < n → sum_below n (λ r. bit (w == r)) ≡ 1)
meets zero w = (λ l. refl, λ l. absurd (omega arith))
meets (suc n) w = meet_next n w (meets n w).0 (meets n w).1

pub sum_point : (n w : ℕ) → w < n → sum_below n (λ r. bit (w == r)) ≡ 1
sum_point n w h = (meets n w).1 h

pub sum_point_le : (n w : ℕ) → sum_below n (λ r. bit (w == r)) ≤ 1
sum_point_le n w = cases (nat_lt w n) refl
  where
    cases : (t : Bool) → nat_lt w n ≡ t → sum_below n (λ r. bit (w == r)) ≤ 1
    cases true e = let k = (meets n w).1 (ltb-true w n e) in omega arith
    cases false e = let l : n ≤ w = grind arith in let k = (meets n w).0 l in omega arith
