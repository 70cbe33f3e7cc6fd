-- What passes a test in one of two permutations is a permutation of what passes it in the other.
use Rattle.std.proofs.Common.{ℕ, zero, suc, ◌<◌, List, [], ◌∷◌, length, get_or, set, swap, filter, cond, Bool, true, false, arith, IsPermutation}
use Rattle.std.proofs.lemmas.List.Sorted.{IsPermutation-refl, IsPermutation-cons, IsPermutation-middle, IsPermutation-trans, IsPermutation-keeps}

module _ {X : Type 0} where
  under_head : (b : Bool) (x : X) (xs ys : List X) → IsPermutation xs ys → IsPermutation (cond b (x ∷ xs) xs) (cond b (x ∷ ys) ys)
  under_head true x xs ys same = IsPermutation-cons x xs ys same
  under_head false x xs ys same = same

  heads_exchanged : (b c : Bool) (x y : X) (xs : List X)
      → IsPermutation (cond b (x ∷ cond c (y ∷ xs) xs) (cond c (y ∷ xs) xs)) (cond c (y ∷ cond b (x ∷ xs) xs) (cond b (x ∷ xs) xs))
  heads_exchanged true true x y xs = IsPermutation-middle (x ∷ []) y xs
  heads_exchanged true false x y xs = IsPermutation-refl (x ∷ xs)
  heads_exchanged false true x y xs = IsPermutation-refl (y ∷ xs)
  heads_exchanged false false x y xs = IsPermutation-refl xs

  module _ (p : X → Bool) where
    -- a head and a later item change places
    to_head : (xs : List X) (j : ℕ) (x d : X) → j < length xs → IsPermutation (filter p (x ∷ xs)) (filter p (get_or xs j d ∷ set xs j x))
    to_head [] j x d low = absurd (omega arith)
    to_head (y ∷ xs) zero x d low = heads_exchanged (p x) (p y) x y (filter p xs)
    to_head (y ∷ xs) (suc j) x d low =
        IsPermutation-trans _ _ _ (heads_exchanged (p x) (p y) x y (filter p xs))
        (IsPermutation-trans _ _ _ (under_head (p y) y _ _ (to_head xs j x d (omega arith)))
        (heads_exchanged (p y) (p (get_or xs j d)) y (get_or xs j d) (filter p (set xs j x))))

    exchanged : (xs : List X) (i j : ℕ) (d : X) → i < length xs → j < length xs
        → IsPermutation (filter p xs) (filter p (set (set xs i (get_or xs j d)) j (get_or xs i d)))
    exchanged [] i j d low high = absurd (omega arith)
    exchanged (x ∷ xs) zero zero d low high = IsPermutation-refl _
    exchanged (x ∷ xs) zero (suc j) d low high = to_head xs j x d (omega arith)
    exchanged (x ∷ xs) (suc i) zero d low high = to_head xs i x d (omega arith)
    exchanged (x ∷ xs) (suc i) (suc j) d low high = under_head (p x) x _ _ (exchanged xs i j d (omega arith) (omega arith))

    swapped : (xs : List X) (i j : ℕ) → i < length xs → j < length xs → IsPermutation (filter p xs) (filter p (swap xs i j))
    swapped [] i j low high = IsPermutation-refl []
    swapped (x ∷ xs) i j low high = exchanged (x ∷ xs) i j x low high

    pub IsPermutation-filter : (xs ys : List X) → IsPermutation xs ys → IsPermutation (filter p xs) (filter p ys)
    IsPermutation-filter xs = IsPermutation-keeps xs (λ ys. IsPermutation (filter p xs) (filter p ys)) (IsPermutation-refl _)
        (λ ys i j low high same. IsPermutation-trans _ _ _ same (swapped ys i j low high))
