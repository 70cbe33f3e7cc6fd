-- A list that is sorted by a key below n, stably, is the list of those with key 0, then those with key 1 and so on.
use Rattle.std.proofs.Common.{◌≡◌, ℕ, zero, suc, ◌≤◌, ◌<◌, List, [], ◌∷◌, length, true, false, not, ◌&&◌, filter, ◌==◌, inl, inr, refl, ap, sym, ◌∙◌, arith, slice_index_or, All, is_lt}
use Rattle.std.proofs.lemmas.Bool.{cases_lt}
use Rattle.std.proofs.lemmas.Bool.Decides.{nat_tests}
use Rattle.std.specs.List.Sorted.{IsNonDecreasingBy, IsPermutation, IsStableByKey, ties}
use Rattle.std.specs.Ordering.{nat_cmp}
use Rattle.std.proofs.lemmas.List.Sorted.{All-permutation}
use Rattle.std.specs.List.{AllByRecursion}
use Rattle.orc_board.specs.Follows.{grouped_by_key}
use Rattle.orc_board.proofs.ListFacts.{eq-yes, AllByRecursion-append, AllByRecursion-filter, AllByRecursion-map}
use Rattle.orc_board.proofs.Keyed.{same_keys}

-- no key is below that of an earlier item
abbrev pub Rises : {X : Type 0} → (X → ℕ) → List X → Type 0
Rises key [] = Unit {0}
Rises key (x ∷ xs) = AllByRecursion (λ y. key x ≤ key y) xs × Rises key xs

pub every_at : {X : Type 0} (P : X → Type 0) (xs : List X) → ((i : ℕ) (d : X) → i < length xs → P (slice_index_or xs i d)) → AllByRecursion P xs
every_at P [] h = tt
every_at P (x ∷ xs) h = (h 0 x (omega arith), every_at P xs (λ i d low. h (suc i) d (omega arith)))

pub Rises-from : {X : Type 0} (key : X → ℕ) (xs : List X) → IsNonDecreasingBy key xs → Rises key xs
Rises-from key [] h = tt
Rises-from key (x ∷ xs) h = (
  every_at (λ y. key x ≤ key y) xs (λ i d low. h 0 (suc i) d (omega arith) (omega arith)),
  Rises-from key xs (λ i j d le low. h (suc i) (suc j) d (omega arith) (omega arith)),
)

other : (a n : ℕ) → a < n → (a == n) ≡ false
other a n h = grind (arith, nat_tests)

none_at : {X : Type 0} (key : X → ℕ) (n : ℕ) (xs : List X) → AllByRecursion (λ y. n < key y) xs → filter (λ y. key y == n) xs ≡ []
none_at key n [] h = refl
none_at key n (x ∷ xs) h = let e : (key x == n) ≡ false = grind (arith, nat_tests, h.0) in rw e (none_at key n xs h.1)

none_under : {X : Type 0} (key : X → ℕ) (n : ℕ) (xs : List X) → AllByRecursion (λ y. n ≤ key y) xs → grouped_by_key key n xs ≡ []
none_under key zero xs h = refl
none_under key (suc n) xs h =
    let low : grouped_by_key key n xs ≡ [] = none_under key n xs (AllByRecursion-map (λ y. suc n ≤ key y) (λ y. n ≤ key y) (λ y l. omega arith) xs h) in
    let here : filter (λ y. key y == n) xs ≡ [] = none_at key n xs (AllByRecursion-map (λ y. suc n ≤ key y) (λ y. n < key y) (λ y l. omega arith) xs h) in
    rw (low, here) refl

-- the item with the least key stands first
first_out : {X : Type 0} (key : X → ℕ) (n : ℕ) (x : X) (xs : List X) → AllByRecursion (λ y. key x ≤ key y) xs → key x < n
    → grouped_by_key key n (x ∷ xs) ≡ x ∷ grouped_by_key key n xs
first_out key zero x xs h low = absurd (omega (arith, low))
first_out {X} key (suc n) x xs h low =
    elim (cases_lt (key x) n) as (λ _. grouped_by_key key (suc n) (x ∷ xs) ≡ x ∷ grouped_by_key key (suc n) xs) [
      | inl l ↦
          let e : (key x == n) ≡ false = other (key x) n l in
          rw (e, first_out key n x xs h l) refl
      | inr l ↦
          let same : key x ≡ n = omega (arith, l, low) in
          let e : (key x == n) ≡ true = eq-yes (key x) n same in
          let above : AllByRecursion (λ y. n ≤ key y) xs = AllByRecursion-map (λ y. key x ≤ key y) (λ y. n ≤ key y) (λ y le. omega (arith, same)) xs h in
          let none : grouped_by_key key n (x ∷ xs) ≡ [] = none_under key n (x ∷ xs) (omega (arith, same), above) in
          let rest : grouped_by_key key n xs ≡ [] = none_under key n xs above in
          rw (none, rest, e) refl
    ]

pub by_key-sorted : {X : Type 0} (key : X → ℕ) (n : ℕ) (xs : List X) → Rises key xs → AllByRecursion (λ y. key y < n) xs → grouped_by_key key n xs ≡ xs
by_key-sorted key zero [] up low = refl
by_key-sorted key (suc n) [] up low = rw (by_key-sorted key n [] tt tt) refl
by_key-sorted key n (x ∷ xs) up low = first_out key n x xs up.0 low.0 ∙ ap (λ z. x ∷ z) (by_key-sorted key n xs up.1 low.1)

pub all_of : {X : Type 0} (P : X → Type 0) (xs : List X) → AllByRecursion P xs → All P xs
all_of P [] h = λ i d low. absurd (omega (arith, low))
all_of P (x ∷ xs) h =
    λ i d low. elim i as (λ i. i < suc (length xs) → P (slice_index_or (x ∷ xs) i d)) [
      | zero ↦ λ l. h.0
      | suc j ↦
          λ l. all_of P xs h.1 j d (omega (arith, l))
    ] low

ties-equal : (a b : ℕ) → (not (is_lt (nat_cmp a b)) && not (is_lt (nat_cmp b a))) ≡ (b == a)
ties-equal a b = grind (arith, nat_tests)

-- a stable sort by a key below n
pub by_key-stable : {X : Type 0} (key : X → ℕ) (n : ℕ) (of_key : ℕ → X) → ((k : ℕ) → key (of_key k) ≡ k) → (xs ys : List X)
    → IsNonDecreasingBy key ys → IsStableByKey key nat_cmp xs ys → IsPermutation xs ys → AllByRecursion (λ x. key x < n) xs → ys ≡ grouped_by_key key n xs
by_key-stable {X} key n of_key names xs ys up stable moved low =
    let tests : (k : ℕ) → (λ (x : X). key x == k) ≡ ties (λ y z. is_lt (nat_cmp (key y) (key z))) (of_key k) =
    λ k i x. sym (ties-equal (key (of_key k)) (key x) ∙ ap (λ z. key x == z) (names k)) i in
    let at : (k : ℕ) → k < n → filter (λ x. key x == k) ys ≡ filter (λ x. key x == k) xs =
    λ k l. ap (λ f. filter f ys) (tests k) ∙ (stable (of_key k) ∙ sym (ap (λ f. filter f xs) (tests k))) in
    let few : AllByRecursion (λ x. key x < n) ys =
    every_at (λ x. key x < n) ys (All-permutation (λ x. key x < n) xs ys moved (all_of (λ x. key x < n) xs low)) in
    sym (by_key-sorted key n ys (Rises-from key ys up) few) ∙ same_keys key n ys xs at

-- what holds of all holds in the order of keys
pub AllByRecursion-by_key : {X : Type 0} (P : X → Type 0) (key : X → ℕ) (n : ℕ) (xs : List X) → AllByRecursion P xs → AllByRecursion P (grouped_by_key key n xs)
AllByRecursion-by_key P key zero xs h = tt
AllByRecursion-by_key P key (suc n) xs h =
    AllByRecursion-append P (grouped_by_key key n xs) (filter (λ x. key x == n) xs) (AllByRecursion-by_key P key n xs h)
    (AllByRecursion-filter P (λ x. key x == n) xs h)
