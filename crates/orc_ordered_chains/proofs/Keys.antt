-- Keys of a set, and entries of a history, one more.
use Rattle.std.proofs.Common.{List, [], ap, arith, filter, false, inl, inr, length, not, refl, subst, sym, true, ℕ, ◌++◌, ◌+◌, ◌==◌, ◌∙◌, ◌∷◌, ◌≡◌, ◌≢◌, ◌≤◌, ◌⊎◌}
use Rattle.std.specs.Prelude.{◌↔◌}
use Rattle.std.proofs.lemmas.Bool.{eq-eqb, eqb-true, ne_eqb, or_cases, or_left, or_right}
use Rattle.std.proofs.lemmas.Map.Views.{any-filter_same}
use Rattle.std.proofs.Math.Bool.{not-not}
use Rattle.std.proofs.lemmas.List.Filters.{length-filter_both}
use Rattle.std.proofs.lemmas.List.Folds.{list_any-append}
use Rattle.orc_history.specs.SetHistory.{IsLegalSetFrom, has, keys_after}
use Rattle.orc_history.specs.declared.set.SetEntry.{SetEntry}
use Rattle.orc_history.specs.declared.set.SetEntry.TheVariants.{Added, Asked, Removed}
use Rattle.orc_ordered_chains.specs.Answers.{MayAnswer}

-- one key more

pub has_added : (key k : ℕ) (keys : List ℕ) → has k (keys ++ key ∷ []) ≡ true → (has k keys ≡ true) ⊎ (key ≡ k)
has_added key k keys e =
    elim (or_cases (has k keys) (has k (key ∷ [])) (sym (list_any-append (λ (x : ℕ). x == k) keys (key ∷ [])) ∙ e)) [
      | inl old ↦ inl old
      | inr new ↦ elim (or_cases (key == k) false new) [ inl is ↦ inr (eqb-true key k is) | inr bad ↦ cc ]
    ]

pub has_old : (key k : ℕ) (keys : List ℕ) → has k keys ≡ true → has k (keys ++ key ∷ []) ≡ true
has_old key k keys e = list_any-append (λ (x : ℕ). x == k) keys (key ∷ []) ∙ or_left _ _ e

pub has_new : (key : ℕ) (keys : List ℕ) → has key (keys ++ key ∷ []) ≡ true
has_new key keys =
    list_any-append (λ (x : ℕ). x == key) keys (key ∷ []) ∙ or_right (has key keys) (has key (key ∷ [])) (or_left (key == key) false (eq-eqb key key refl))

-- one key less

other_kept : (key k : ℕ) → k ≢ key → (x : ℕ) → (x == k) ≡ true → not (x == key) ≡ true
other_kept key k ne x is = rw (ne_eqb x key (λ same. ne (sym (eqb-true x k is) ∙ same))) refl

same_lost : (key k : ℕ) → k ≡ key → (x : ℕ) → (x == k) ≡ true → not (x == key) ≡ false
same_lost key k same x is = rw (eq-eqb x key (eqb-true x k is ∙ same)) refl

pub has_kept : (key k : ℕ) (keys : List ℕ) → has k keys ≡ true → k ≢ key → has k (filter (λ x. not (x == key)) keys) ≡ true
has_kept key k keys e ne = any-filter_same (λ x. x == k) (λ x. not (x == key)) true (other_kept key k ne) keys ∙ e

pub has_left : (key k : ℕ) (keys : List ℕ) → has k (filter (λ x. not (x == key)) keys) ≡ true → (has k keys ≡ true) × (k ≢ key)
has_left key k keys e =
    let ne : k ≢ key = λ same.
    let bad : true ≡ false = sym e ∙ any-filter_same (λ x. x == k) (λ x. not (x == key)) false (same_lost key k same) keys in
    cc in
    (sym (any-filter_same (λ x. x == k) (λ x. not (x == key)) true (other_kept key k ne) keys) ∙ e, ne)

-- a list is shorter without a number that it has
pub filter_less : (x : ℕ) (xs : List ℕ) → has x xs ≡ true → length (filter (λ y. not (y == x)) xs) + 1 ≤ length xs
filter_less x xs e =
    omega (
      arith,
      length-filter_both (λ y. not (y == x)) (λ y. y == x) (λ y. sym (not-not (y == x))) xs,
      some_left (filter (λ y. y == x) xs) (any-filter_same (λ y. y == x) (λ y. y == x) true (λ y is. is) xs ∙ e),
    )
  where
    some_left : (ys : List ℕ) → has x ys ≡ true → 1 ≤ length ys
    some_left [] bad = cc
    some_left (y ∷ ys) is = omega arith

-- keys at which a node stands, before an event and after it

module _ (Was Now : ℕ → ℕ → Type 0) (keys : List ℕ) (before : (key : ℕ) → (has key keys ≡ true) ↔ ((id : ℕ) × Was id key)) where
  pub keys_same : ((id key : ℕ) → Was id key → Now id key) → ((id key : ℕ) → Now id key → Was id key)
      → (key : ℕ) → (has key keys ≡ true) ↔ ((id : ℕ) × Now id key)
  keys_same on back key = (
    (λ is. let (id, y) = (before key).0 is in (id, on id key y)),
    (λ y. (before key).1 (y.0, back y.0 key y.1)),
  )

  pub keys_added : (new key : ℕ) → Now new key → ((id b : ℕ) → Was id b → Now id b) → ((id b : ℕ) → Now id b → Was id b ⊎ (key ≡ b))
      → (b : ℕ) → (has b (keys ++ key ∷ []) ≡ true) ↔ ((id : ℕ) × Now id b)
  keys_added new key own on back b = (
    (λ is. elim (has_added key b keys is) [
      | inl old ↦ (let (id, y) = (before b).0 old in (id, on id b y))
      | inr same ↦ subst (λ (x : ℕ). (id : ℕ) × Now id x) same (new, own)
    ]),
    (λ y. elim (back y.0 b y.1) [
      | inl old ↦ has_old key b keys ((before b).1 (y.0, old))
      | inr same ↦ subst (λ (z : ℕ). has z (keys ++ key ∷ []) ≡ true) same (has_new key keys)
    ]),
  )

  pub keys_removed : (key : ℕ) → ((id b : ℕ) → b ≢ key → Was id b → Now id b) → ((id b : ℕ) → Now id b → (b ≢ key) × Was id b)
      → (b : ℕ) → (has b (filter (λ y. not (y == key)) keys) ≡ true) ↔ ((id : ℕ) × Now id b)
  keys_removed key on back b = (
    (λ is.
        let (old, ne) = has_left key b keys is in
        let (id, y) = (before b).0 old in
        (id, on id b ne y)),
    (λ y. let (ne, was) = back y.0 b y.1 in has_kept key b keys ((before b).1 (y.0, was)) ne),
  )

-- an answer

pub answer_legal : (keys : List ℕ) (entry : SetEntry) → MayAnswer keys entry → IsLegalSetFrom keys (entry ∷ [])
answer_legal keys (Added by key answer) (is, there) = (rw (is, there) refl, tt)
answer_legal keys (Removed by key answer) (is, none) = (rw (is, none) refl, tt)
answer_legal keys (Asked by key answer) is = (is, tt)

pub answer_keys : (keys : List ℕ) (entry : SetEntry) → MayAnswer keys entry → keys_after keys (entry ∷ []) ≡ keys
answer_keys keys (Added by key answer) (is, there) = rw is refl
answer_keys keys (Removed by key answer) (is, none) = rw is refl
answer_keys keys (Asked by key answer) is = refl

-- a list that is one longer, cut in two: the cut is before the last, or there is nothing behind it
pub split_snoc : {A : Type 0} (xs : List A) (x : A) (before after : List A) → xs ++ x ∷ [] ≡ before ++ after
    → ((rest : List A) × (xs ≡ before ++ rest)) ⊎ (before ≡ xs ++ x ∷ [])
split_snoc xs x [] after e = inl (xs, refl)
split_snoc [] x (b ∷ []) after e = inr (cc)
split_snoc [] x (b ∷ c ∷ bs) after e = let bad : [] ≡ (c ∷ bs) ++ after = cc in absurd (cc)
split_snoc (y ∷ xs) x (b ∷ bs) after e =
    let tail : xs ++ x ∷ [] ≡ bs ++ after = cc in
    let head : y ≡ b = cc in
    elim (split_snoc xs x bs after tail) [
      | inl s ↦ inl (s.0, rw (← head) (ap (λ z. y ∷ z) s.1))
      | inr s ↦ inr (rw (← head) (ap (λ z. y ∷ z) s))
    ]
