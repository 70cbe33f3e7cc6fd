-- Facts of each element and its place.
use Rattle.std.proofs.Common.{List, [], arith, length, slice_index_or, subst, suc, zero, ℕ, ◌++◌, ◌+◌, ◌≡◌, ◌∷◌}
use Rattle.orc_shared_words.specs.Lists.{EachAt}

module _ {A : Type 0} where
  pub each_at-nil : (P : ℕ → A → Type 0) → EachAt P []
  each_at-nil P i d lt = absurd (omega arith)

  pub each_at-cons : (P : ℕ → A → Type 0) (x : A) (xs : List A) → P 0 x → EachAt (λ i. P (suc i)) xs → EachAt P (x ∷ xs)
  each_at-cons P x xs p h zero d lt = p
  each_at-cons P x xs p h (suc i) d lt = h i d (omega arith)

  -- the same, where the others are told of by their places before the first came
  pub each_at-first : (P : ℕ → A → Type 0) (x : A) (xs : List A) → P 0 x → EachAt (λ i. P (i + 1)) xs → EachAt P (x ∷ xs)
  each_at-first P x xs p h = each_at-cons P x xs p (λ i d lt. let next : i + 1 ≡ suc i = omega arith in subst (λ k. P k (slice_index_or xs i d)) next (h i d lt))

  pub each_at-push : (P : ℕ → A → Type 0) (xs : List A) (y : A) → EachAt P xs → P (length xs) y → EachAt P (xs ++ y ∷ [])
  each_at-push P [] y h p = each_at-cons P y [] p (each_at-nil (λ i. P (suc i)))
  each_at-push P (x ∷ xs) y h p =
      each_at-cons P x (xs ++ y ∷ []) (h 0 x (omega arith)) (each_at-push (λ i. P (suc i)) xs y (λ i d lt. h (suc i) d (omega arith)) p)

  module _ (P : ℕ → A → Type 0) (x : A) (xs all : List A) (split : all ≡ x ∷ xs) where
    -- of elements that stand from place n on: the first, and those from place m on
    pub first_placed : (n : ℕ) → EachAt (λ i. P (n + i)) all → P n x
    first_placed n h = let same : n + 0 ≡ n = omega arith in subst (λ k. P k x) same (subst (EachAt (λ i. P (n + i))) split h 0 x (omega arith))

    pub rest_placed : (n m : ℕ) → m ≡ n + 1 → EachAt (λ i. P (n + i)) all → EachAt (λ i. P (m + i)) xs
    rest_placed n m next h i d lt = let same : n + suc i ≡ m + i = omega arith in
        subst (λ k. P k (slice_index_or xs i d)) same (subst (EachAt (λ i. P (n + i))) split h (suc i) d (omega arith))

  pub from_start : (P : ℕ → A → Type 0) (xs : List A) → EachAt P xs → EachAt (λ i. P (0 + i)) xs
  from_start P xs h i d lt = let same : i ≡ 0 + i = omega arith in subst (λ k. P k (slice_index_or xs i d)) same (h i d lt)
