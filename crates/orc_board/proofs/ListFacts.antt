-- Tests on numbers, and facts of each item of a list.
use Rattle.std.proofs.Common.{◌≡◌, ◌≢◌, ℕ, zero, suc, ◌≤◌, ◌<◌, List, [], ◌∷◌, ◌++◌, Bool, true, false, cond, filter, ◌==◌, ◌⊎◌, inl, inr, refl, ap, arith}
use Rattle.std.proofs.lemmas.Bool.{cases_lt}
use Rattle.std.proofs.lemmas.Bool.Decides.{nat_tests}
use Rattle.std.specs.List.{AllByRecursion}

pub eq-yes : (a b : ℕ) → a ≡ b → (a == b) ≡ true
eq-yes a b e = grind (arith, nat_tests)

pub eq-no : (a b : ℕ) → a ≢ b → (a == b) ≡ false
eq-no a b e = grind (arith, nat_tests)

pub eq-true : (a b : ℕ) → (a == b) ≡ true → a ≡ b
eq-true a b e = grind (arith, nat_tests)

pub eq-false : (a b : ℕ) → (a == b) ≡ false → a ≢ b
eq-false a b e = grind (arith, nat_tests)

pub zero_or : (p : ℕ) → (p ≡ 0) ⊎ (1 ≤ p)
zero_or zero = inl refl
zero_or (suc p) = inr (omega arith)

pub le-cases : (a b : ℕ) → (a ≤ b) ⊎ (b < a)
le-cases a b = elim (cases_lt b a) as (λ _. (a ≤ b) ⊎ (b < a)) [ inl h ↦ inr h | inr h ↦ inl h ]

pub AllByRecursion-all : {X : Type 0} (P : X → Type 0) → ((x : X) → P x) → (xs : List X) → AllByRecursion P xs
AllByRecursion-all P f [] = tt
AllByRecursion-all P f (x ∷ xs) = (f x, AllByRecursion-all P f xs)

pub AllByRecursion-append : {X : Type 0} (P : X → Type 0) (xs ys : List X) → AllByRecursion P xs → AllByRecursion P ys → AllByRecursion P (xs ++ ys)
AllByRecursion-append P [] ys a b = b
AllByRecursion-append P (x ∷ xs) ys a b = (a.0, AllByRecursion-append P xs ys a.1 b)

pub AllByRecursion-map : {X : Type 0} (P Q : X → Type 0) → ((x : X) → P x → Q x) → (xs : List X) → AllByRecursion P xs → AllByRecursion Q xs
AllByRecursion-map P Q f [] a = tt
AllByRecursion-map P Q f (x ∷ xs) a = (f x a.0, AllByRecursion-map P Q f xs a.1)

pub AllByRecursion-both : {X : Type 0} (P Q : X → Type 0) (xs : List X) → AllByRecursion P xs → AllByRecursion Q xs → AllByRecursion (λ x. P x × Q x) xs
AllByRecursion-both P Q [] a b = tt
AllByRecursion-both P Q (x ∷ xs) a b = ((a.0, b.0), AllByRecursion-both P Q xs a.1 b.1)

pub AllByRecursion-left : {X : Type 0} (P : X → Type 0) (xs ys : List X) → AllByRecursion P (xs ++ ys) → AllByRecursion P xs
AllByRecursion-left P [] ys a = tt
AllByRecursion-left P (x ∷ xs) ys a = (a.0, AllByRecursion-left P xs ys a.1)

pub AllByRecursion-right : {X : Type 0} (P : X → Type 0) (xs ys : List X) → AllByRecursion P (xs ++ ys) → AllByRecursion P ys
AllByRecursion-right P [] ys a = a
AllByRecursion-right P (x ∷ xs) ys a = AllByRecursion-right P xs ys a.1

pub AllByRecursion-filter : {X : Type 0} (P : X → Type 0) (test : X → Bool) (xs : List X) → AllByRecursion P xs → AllByRecursion P (filter test xs)
AllByRecursion-filter P test [] a = tt
AllByRecursion-filter {X} P test (x ∷ xs) a =
    let cases : (b : Bool) → AllByRecursion P (cond b (x ∷ filter test xs) (filter test xs)) =
    elim [ true ↦ (a.0, AllByRecursion-filter P test xs a.1) | false ↦ AllByRecursion-filter P test xs a.1 ] in
    cases (test x)

-- a key that no item has
pub filter-none : {X : Type 0} (key : X → ℕ) (a : ℕ) (xs : List X) → AllByRecursion (λ x. key x ≢ a) xs → filter (λ x. key x == a) xs ≡ []
filter-none key a [] h = refl
filter-none key a (x ∷ xs) h = let e : (key x == a) ≡ false = eq-no (key x) a h.0 in rw e (filter-none key a xs h.1)

-- the key that all items have
pub filter-all : {X : Type 0} (key : X → ℕ) (a : ℕ) (xs : List X) → AllByRecursion (λ x. key x ≡ a) xs → filter (λ x. key x == a) xs ≡ xs
filter-all key a [] h = refl
filter-all {X} key a (x ∷ xs) h = let e : (key x == a) ≡ true = eq-yes (key x) a h.0 in rw e (ap (λ (z : List X). x ∷ z) (filter-all key a xs h.1))
