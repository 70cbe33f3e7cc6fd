-- Two lists that agree key by key are permutations of one another.
use Rattle.std.proofs.Common.{◌≡◌, ◌≢◌, ℕ, zero, suc, ◌≤◌, ◌<◌, List, [], ◌∷◌, ◌++◌, Bool, true, false, cond, filter, ◌==◌, ltb, ◌⊎◌, inl, inr, refl, ap, sym, ◌∙◌, subst, arith}
use Rattle.std.proofs.lemmas.Bool.Decides.{nat_tests}
use Rattle.std.specs.List.Sorted.{IsPermutation}
use Rattle.std.proofs.lemmas.List.Sorted.{IsPermutation-refl, IsPermutation-sym, IsPermutation-trans, IsPermutation-cons, IsPermutation-middle, IsPermutation-append}
use Rattle.std.specs.List.{AllByRecursion}
use Rattle.orc_board.specs.Follows.{grouped_by_key}
use Rattle.orc_board.proofs.ListFacts.{AllByRecursion-append, AllByRecursion-map, eq-true, filter-none}

no_way : {Z : Type 0} → true ≡ false → Z
no_way e = let n : ⊥ = cc in absurd n

split_step : {X : Type 0} (x : X) (less same more : Bool) (F G H : List X) → (more ≡ true → (less ≡ true) ⊎ (same ≡ true)) → (less ≡ true → same ≡ false)
    → (less ≡ true → more ≡ true) → (same ≡ true → more ≡ true)
    → IsPermutation H (F ++ G) → IsPermutation (cond more (x ∷ H) H) (cond less (x ∷ F) F ++ cond same (x ∷ G) G)
split_step x true true more F G H a b c d p = no_way (b refl)
split_step x true false true F G H a b c d p = IsPermutation-cons x H (F ++ G) p
split_step x true false false F G H a b c d p = no_way (sym (c refl))
split_step x false true true F G H a b c d p =
    IsPermutation-trans (x ∷ H) (x ∷ (F ++ G)) (F ++ x ∷ G) (IsPermutation-cons x H (F ++ G) p)
    (IsPermutation-sym (F ++ x ∷ G) (x ∷ (F ++ G)) (IsPermutation-middle F x G))
split_step x false true false F G H a b c d p = no_way (sym (d refl))
split_step x false false true F G H a b c d p = elim (a refl) as (λ _. IsPermutation (x ∷ H) (F ++ G)) [ inl e ↦ no_way (sym e) | inr e ↦ no_way (sym e) ]
split_step x false false false F G H a b c d p = p

tests_a : (k n : ℕ) → ltb k (suc n) ≡ true → (ltb k n ≡ true) ⊎ ((k == n) ≡ true)
tests_a k n e = grind (arith, nat_tests)

tests_b : (k n : ℕ) → ltb k n ≡ true → (k == n) ≡ false
tests_b k n e = grind (arith, nat_tests)

tests_c : (k n : ℕ) → ltb k n ≡ true → ltb k (suc n) ≡ true
tests_c k n e = grind (arith, nat_tests)

tests_d : (k n : ℕ) → (k == n) ≡ true → ltb k (suc n) ≡ true
tests_d k n e = grind (arith, nat_tests)

one_more : {X : Type 0} (key : X → ℕ) (n : ℕ) (xs : List X)
    → IsPermutation (filter (λ x. ltb (key x) (suc n)) xs) (filter (λ x. ltb (key x) n) xs ++ filter (λ x. key x == n) xs)
one_more key n [] = IsPermutation-refl []
one_more key n (x ∷ xs) =
    split_step x (ltb (key x) n) (key x == n) (ltb (key x) (suc n)) (filter (λ x. ltb (key x) n) xs) (filter (λ x. key x == n) xs)
    (filter (λ x. ltb (key x) (suc n)) xs)
    (tests_a (key x) n) (tests_b (key x) n) (tests_c (key x) n) (tests_d (key x) n) (one_more key n xs)

none_below : {X : Type 0} (key : X → ℕ) (xs : List X) → filter (λ x. ltb (key x) 0) xs ≡ []
none_below key [] = refl
none_below key (x ∷ xs) = let e : ltb (key x) 0 ≡ false = grind (arith, nat_tests) in rw e (none_below key xs)

ltb-yes : (a b : ℕ) → a < b → ltb a b ≡ true
ltb-yes a b h = grind (arith, nat_tests)

all_below : {X : Type 0} (key : X → ℕ) (n : ℕ) (xs : List X) → AllByRecursion (λ x. key x < n) xs → filter (λ x. ltb (key x) n) xs ≡ xs
all_below key n [] h = refl
all_below key n (x ∷ xs) h = rw (ltb-yes (key x) n h.0) (ap (λ z. x ∷ z) (all_below key n xs h.1))

sorted_out : {X : Type 0} (key : X → ℕ) (n : ℕ) (xs : List X) → IsPermutation (filter (λ x. ltb (key x) n) xs) (grouped_by_key key n xs)
sorted_out key zero xs = subst (λ z. IsPermutation z []) (sym (none_below key xs)) (IsPermutation-refl [])
sorted_out {X} key (suc n) xs =
    let rest : List X = filter (λ x. key x == n) xs in
    let few : List X = filter (λ x. ltb (key x) n) xs in
    IsPermutation-trans (filter (λ x. ltb (key x) (suc n)) xs) (few ++ rest) (grouped_by_key key n xs ++ rest) (one_more key n xs)
    (IsPermutation-append few (grouped_by_key key n xs) rest rest (sorted_out key n xs) (IsPermutation-refl rest))

-- lists that agree at each key below n give the same in the order of keys
pub same_keys : {X : Type 0} (key : X → ℕ) (n : ℕ) (xs ys : List X) → ((a : ℕ) → a < n → filter (λ x. key x == a) xs ≡ filter (λ x. key x == a) ys)
    → grouped_by_key key n xs ≡ grouped_by_key key n ys
same_keys key zero xs ys h = refl
same_keys key (suc n) xs ys h =
    ap (λ z. z ++ filter (λ x. key x == n) xs) (same_keys key n xs ys (λ a l. h a (omega arith))) ∙ ap (λ z. grouped_by_key key n ys ++ z) (h n (omega arith))

-- lists that agree at each key below n, and have no other keys, hold the same items as often
pub same_by_keys : {X : Type 0} (key : X → ℕ) (n : ℕ) (xs ys : List X) → AllByRecursion (λ x. key x < n) xs → AllByRecursion (λ x. key x < n) ys
    → ((a : ℕ) → a < n → filter (λ x. key x == a) xs ≡ filter (λ x. key x == a) ys) → IsPermutation xs ys
same_by_keys key n xs ys a b h =
    let p : IsPermutation xs (grouped_by_key key n xs) = subst (λ z. IsPermutation z (grouped_by_key key n xs)) (all_below key n xs a) (sorted_out key n xs) in
    let q : IsPermutation ys (grouped_by_key key n ys) = subst (λ z. IsPermutation z (grouped_by_key key n ys)) (all_below key n ys b) (sorted_out key n ys) in
    IsPermutation-trans xs (grouped_by_key key n xs) ys p (subst (λ z. IsPermutation z ys) (sym (same_keys key n xs ys h)) (IsPermutation-sym ys (grouped_by_key key n ys) q))

passed_test : {X : Type 0} (key : X → ℕ) (n : ℕ) (xs : List X) → AllByRecursion (λ x. key x ≡ n) (filter (λ x. key x == n) xs)
passed_test key n [] = tt
passed_test {X} key n (x ∷ xs) =
    let cases : (b : Bool) → (key x == n) ≡ b → AllByRecursion (λ x. key x ≡ n) (cond b (x ∷ filter (λ x. key x == n) xs) (filter (λ x. key x == n) xs)) =
    elim [ true ↦ λ e. (eq-true (key x) n e, passed_test key n xs) | false ↦ λ e. passed_test key n xs ] in
    cases (key x == n) refl

-- a list in the order of its keys has no others
pub by_key_below : {X : Type 0} (key : X → ℕ) (n : ℕ) (xs : List X) → AllByRecursion (λ x. key x < n) (grouped_by_key key n xs)
by_key_below key zero xs = tt
by_key_below key (suc n) xs =
    AllByRecursion-append (λ x. key x < suc n) (grouped_by_key key n xs) (filter (λ x. key x == n) xs)
    (AllByRecursion-map (λ x. key x < n) (λ x. key x < suc n) (λ x h. omega arith) (grouped_by_key key n xs) (by_key_below key n xs))
    (AllByRecursion-map (λ x. key x ≡ n) (λ x. key x < suc n) (λ x h. omega arith) (filter (λ x. key x == n) xs) (passed_test key n xs))

no_lower : {X : Type 0} (key : X → ℕ) (m n : ℕ) (xs : List X) → m ≤ n → AllByRecursion (λ x. key x ≡ n) xs → grouped_by_key key m xs ≡ []
no_lower key zero n xs l h = refl
no_lower {X} key (suc m) n xs l h =
    ap (λ z. z ++ filter (λ x. key x == m) xs) (no_lower key m n xs (omega arith) h)
    ∙ filter-none key m xs (AllByRecursion-map (λ x. key x ≡ n) (λ x. key x ≢ m) (λ x e. omega arith) xs h)
