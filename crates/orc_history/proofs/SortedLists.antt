-- Lists of numbers that rise: what a search finds, an insert at its place, and a removal as a filter.
use Rattle.std.proofs.Common.{◌≡◌, ◌≢◌, ℕ, zero, suc, ◌+◌, ◌≤◌, ◌<◌, List, [], ◌∷◌, length, get_or, true, false, ◌==◌, Result, Ok, Err, is_ok, inl, inr, refl, ap, sym, arith}
use Rattle.std.proofs.lemmas.Bool.Decides.{nat_tests}
use Rattle.std.specs.List.{insert, remove}
use Rattle.std.specs.List.Sorted.{IsBinarySearchResult, IsStrictlyIncreasing}
use Rattle.std.specs.Ordering.{nat_cmp}
use Rattle.std.proofs.lemmas.Bool.{cases_lt}
use Rattle.std.proofs.lemmas.List.Sorted.{searched}
use Rattle.std.proofs.lemmas.List.Kept.{AllPairs-from_increasing}
use Rattle.orc_history.specs.SetHistory.{has, without_key}

-- each number is below the later ones, and no higher than itself
pub rising_far : (xs : List ℕ) → IsStrictlyIncreasing xs → (i j : ℕ) → i ≤ j → j < length xs → get_or xs i 0 ≤ get_or xs j 0
rising_far xs rising i j low high =
    let below : i < j → j < length xs → get_or xs i 0 < get_or xs j 0 = AllPairs-from_increasing xs rising i j 0 in
    grind arith

pub has-present : (key : ℕ) (xs : List ℕ) (i : ℕ) → i < length xs → get_or xs i 0 ≡ key → has key xs ≡ true
has-present key [] i low is = absurd (omega arith)
has-present key (x ∷ xs) zero low is = grind (arith, nat_tests)
has-present key (x ∷ xs) (suc i) low is = let later : has key xs ≡ true = has-present key xs i (omega arith) is in grind (arith, nat_tests)

pub has-absent : (key : ℕ) (xs : List ℕ) → ((k : ℕ) → k < length xs → get_or xs k 0 ≢ key) → has key xs ≡ false
has-absent key [] none = refl
has-absent key (x ∷ xs) none =
    let first : (x == key) ≡ false = let other : x ≢ key = none 0 (omega arith) in grind (arith, nat_tests) in
    let later : has key xs ≡ false = has-absent key xs (λ k low. none (suc k) (omega arith)) in
    rw (first, later) refl

-- what a binary search for the key answers
pub record IsMissed (key : ℕ) (xs : List ℕ) (i : ℕ) : Type 0 where
  pub in_range : i ≤ length xs
  pub below : (k : ℕ) → k < i → get_or xs k 0 < key
  pub above : (k : ℕ) → i ≤ k → k < length xs → key < get_or xs k 0

pub found_at : (key : ℕ) (xs : List ℕ) (i : ℕ) → IsStrictlyIncreasing xs → IsBinarySearchResult (λ y. nat_cmp y key) xs (Ok i)
    → (i < length xs) × (get_or xs i 0 ≡ key)
found_at key xs i rising position = searched xs key (Ok i) position (rising_far xs rising)

pub missed_at : (key : ℕ) (xs : List ℕ) (i : ℕ) → IsStrictlyIncreasing xs → IsBinarySearchResult (λ y. nat_cmp y key) xs (Err i) → IsMissed key xs i
missed_at key xs i rising position =
    let facts = searched xs key (Err i) position (rising_far xs rising) in
    record { in_range = facts.0; below = facts.1; above = facts.2 }

pub has-found : (key : ℕ) (xs : List ℕ) (i : ℕ) → IsStrictlyIncreasing xs → IsBinarySearchResult (λ y. nat_cmp y key) xs (Ok i) → has key xs ≡ true
has-found key xs i rising position = let at = found_at key xs i rising position in has-present key xs i at.0 at.1

pub has-missed : (key : ℕ) (xs : List ℕ) (i : ℕ) → IsStrictlyIncreasing xs → IsBinarySearchResult (λ y. nat_cmp y key) xs (Err i) → has key xs ≡ false
has-missed key xs i rising position =
    let missed = missed_at key xs i rising position in
    has-absent key xs (λ k low same. elim (cases_lt k i) [
      | inl before ↦ (let lower : get_or xs k 0 < key = missed.below k before in omega arith)
      | inr after ↦ (let higher : key < get_or xs k 0 = missed.above k after low in omega arith)
    ])

pub has-searched : (key : ℕ) (xs : List ℕ) (r : Result ℕ ℕ) → IsStrictlyIncreasing xs → IsBinarySearchResult (λ y. nat_cmp y key) xs r → is_ok r ≡ has key xs
has-searched key xs (Ok i) rising position = sym (has-found key xs i rising position)
has-searched key xs (Err i) rising position = sym (has-missed key xs i rising position)

-- no number of the list is the key
filter_none : (key : ℕ) (xs : List ℕ) → ((k : ℕ) → k < length xs → key < get_or xs k 0) → without_key key true xs ≡ xs
filter_none key [] above = refl
filter_none key (x ∷ xs) above =
    let first : (x == key) ≡ false = let other : key < x = above 0 (omega arith) in grind (arith, nat_tests) in
    rw first (ap (λ ys. x ∷ ys) (filter_none key xs (λ k low. above (suc k) (omega arith))))

rising_tail : (x : ℕ) (xs : List ℕ) → IsStrictlyIncreasing (x ∷ xs) → IsStrictlyIncreasing xs
rising_tail x xs rising k low =
    let next : suc k + 1 ≡ suc (k + 1) = omega arith in
    rw next at (rising (suc k) (omega arith))

pub remove-without_key : (key : ℕ) (xs : List ℕ) (i : ℕ) → IsStrictlyIncreasing xs → i < length xs → get_or xs i 0 ≡ key → remove xs i ≡ without_key key true xs
remove-without_key key [] i rising low is = absurd (omega arith)
remove-without_key key (x ∷ xs) zero rising low is =
    let first : (x == key) ≡ true = grind (arith, nat_tests) in
    rw first (sym
    (filter_none key xs (λ k low. let below : x < get_or xs k 0 =
    AllPairs-from_increasing (x ∷ xs) rising 0 (suc k) 0 (omega arith) (omega arith) in omega arith)))
remove-without_key key (x ∷ xs) (suc i) rising low is =
    let below : x < get_or xs i 0 = AllPairs-from_increasing (x ∷ xs) rising 0 (suc i) 0 (omega arith) (omega arith) in
    let first : (x == key) ≡ false = grind (arith, nat_tests) in
    rw first (ap (λ ys. x ∷ ys) (remove-without_key key xs i (rising_tail x xs rising) (omega arith) is))

rising_cons : (x : ℕ) (xs : List ℕ) → (0 < length xs → x < get_or xs 0 0) → IsStrictlyIncreasing xs → IsStrictlyIncreasing (x ∷ xs)
rising_cons x xs first rising zero low = first (omega arith)
rising_cons x xs first rising (suc k) low =
    let next : suc k + 1 ≡ suc (k + 1) = omega arith in
    rw next (rising k (omega arith))

-- a number comes in where all before it are lower and all from there on are higher
pub IsStrictlyIncreasing-insert : (key : ℕ) (xs : List ℕ) (i : ℕ) → IsStrictlyIncreasing xs
    → ((k : ℕ) → k < i → get_or xs k 0 < key) → ((k : ℕ) → i ≤ k → k < length xs → key < get_or xs k 0) → IsStrictlyIncreasing (insert xs i key)
IsStrictlyIncreasing-insert key xs zero rising below above = rising_cons key xs (λ low. above 0 (omega arith) low) rising
IsStrictlyIncreasing-insert key [] (suc i) rising below above = rising_cons key [] (λ low. absurd (omega arith)) rising
IsStrictlyIncreasing-insert key (x ∷ xs) (suc zero) rising below above =
    rising_cons x (key ∷ xs) (λ _. below 0 (omega arith)) (rising_cons key xs (λ low. above 1 (omega arith) (omega arith)) (rising_tail x xs rising))
IsStrictlyIncreasing-insert key (x ∷ []) (suc (suc i)) rising below above =
    rising_cons x (key ∷ []) (λ _. below 0 (omega arith)) (rising_cons key [] (λ low. absurd (omega arith)) (rising_tail x [] rising))
IsStrictlyIncreasing-insert key (x ∷ y ∷ xs) (suc (suc i)) rising below above =
    rising_cons x (y ∷ insert xs i key) (λ _. rising 0 (omega arith))
    (IsStrictlyIncreasing-insert key (y ∷ xs) (suc i) (rising_tail x (y ∷ xs) rising) (λ k low. below (suc k) (omega arith))
    (λ k low high. above (suc k) (omega arith) (omega arith)))
