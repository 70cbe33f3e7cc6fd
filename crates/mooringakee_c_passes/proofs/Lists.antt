-- Facts of each element and its place.
use Rattle.std.proofs.Common.{List, [], add-zero, ap, arith, suc, inl, inr, length, slice_index_or, subst, sym, ℕ, ◌++◌, ◌+◌, ◌<◌, ◌∷◌, ◌∙◌, ◌≡◌, ◌⊎◌}
use Rattle.std.proofs.Math.Nat.{eq-or-lt_of_le}
use Rattle.std.proofs.Math.Seq.{get_or-append_seam}
use Rattle.std.proofs.lemmas.List.{get_or_append_left, length-append}
use Rattle.orc_shared_words.specs.Lists.{EachAt}

-- one more element
pub EachAt-push : {A : Type 0} (P : ℕ → A → Type 0) (xs : List A) (x : A) → EachAt P xs → P (length xs) x → EachAt P (xs ++ x ∷ [])
EachAt-push {A} P xs x all one i d low = cases (eq-or-lt_of_le (omega (arith, low, length-append xs (x ∷ []))))
  where
    cases : (i ≡ length xs) ⊎ (i < length xs) → P i (slice_index_or (xs ++ x ∷ []) i d)
    cases (inl same) =
        subst (λ (k : ℕ). P k (slice_index_or (xs ++ x ∷ []) k d)) (sym same)
        (subst (λ (y : A). P (length xs) y) (sym (get_or-append_seam xs x [] d)) one)
    cases (inr before) = subst (λ (y : A). P i y) (sym (get_or_append_left xs (x ∷ []) d i before)) (all i d before)

-- what is left of a list, from its n-th element on
abbrev pub IsRest : {A : Type 0} → List A → ℕ → List A → Type 0
IsRest {A} all n rest = (i : ℕ) (d : A) → i < length rest → slice_index_or rest i d ≡ slice_index_or all (n + i) d

-- the next element is the n-th
pub here_at : {A : Type 0} (all rest xs : List A) (x : A) (n : ℕ) (d : A) → rest ≡ x ∷ xs → IsRest all n rest → slice_index_or all n d ≡ x
here_at all rest xs x n d is same =
    let long : length rest ≡ suc (length xs) = ap length is in
    ap (λ (k : ℕ). slice_index_or all k d) (sym (add-zero n)) ∙ (sym (same 0 d (omega (arith, long))) ∙ ap (λ ys. slice_index_or ys 0 d) is)

-- and the others are left
pub rest_after : {A : Type 0} (all rest xs : List A) (x : A) (n m : ℕ) → rest ≡ x ∷ xs → m ≡ n + 1 → IsRest all n rest → IsRest all m xs
rest_after all rest xs x n m is more same i d low =
    let long : length rest ≡ suc (length xs) = ap length is in
    let at : n + suc i ≡ m + i = omega (arith, more) in
    sym (ap (λ ys. slice_index_or ys (suc i) d) is) ∙ (same (suc i) d (omega (arith, low, long)) ∙ ap (λ (k : ℕ). slice_index_or all k d) at)
