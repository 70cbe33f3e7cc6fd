-- Items of lists that grow by one, and of lists of which one item changes.
use Rattle.std.proofs.Common.{◌≡◌, ◌≢◌, ℕ, zero, suc, ◌<◌, List, [], ◌∷◌, ◌++◌, length, Some, slice_get, slice_index, slice_set, get_or-set_same, get_or-set_other, refl, ap, ◌⊎◌, inl, inr, arith}
use Rattle.orc_heap.specs.Heap.{change}

pub lt_get : {A : Type 0} (xs : List A) (i : ℕ) → i < length xs → (x : A) × (slice_get xs i ≡ Some x)
lt_get [] i l = absurd (omega arith)
lt_get (y ∷ xs) zero l = (y, refl)
lt_get (y ∷ xs) (suc i) l = lt_get xs i (omega arith)

-- an item of a list with one more at its end
pub get_end : {A : Type 0} (xs : List A) (y : A) (i : ℕ) (x : A) → slice_get (xs ++ y ∷ []) i ≡ Some x → (slice_get xs i ≡ Some x) ⊎ ((i ≡ length xs) × (x ≡ y))
get_end [] y zero x e = inr (refl, cc)
get_end [] y (suc i) x e = cc
get_end (z ∷ xs) y zero x e = inl e
get_end (z ∷ xs) y (suc i) x e = elim (get_end xs y i x e) [ inl r ↦ inl r | inr r ↦ inr (ap suc r.0, r.1) ]

pub get_last : {A : Type 0} (xs : List A) (y : A) → slice_get (xs ++ y ∷ []) (length xs) ≡ Some y
get_last [] y = refl
get_last (x ∷ xs) y = get_last xs y

-- an item of a changed list was one of the list
pub change_back : {A : Type 0} (f : A → A) (i j : ℕ) (xs : List A) (y : A) → slice_get (change f i xs) j ≡ Some y
    → ((i ≡ j) × (x : A) × (slice_get xs j ≡ Some x) × (y ≡ f x)) ⊎ ((i ≢ j) × (slice_get xs j ≡ Some y))
change_back f i j [] y e = cc
change_back f zero zero (x ∷ xs) y e = inl (refl, x, refl, cc)
change_back f zero (suc j) (x ∷ xs) y e = inr ((λ h. cc), e)
change_back f (suc i) zero (x ∷ xs) y e = inr ((λ h. cc), e)
change_back f (suc i) (suc j) (x ∷ xs) y e =
    elim (change_back f i j xs y e) [ inl r ↦ inl (ap suc r.0, r.1, r.2, r.3) | inr r ↦ inr ((λ h. r.0 (cc)), r.1) ]

pub new_word : (w : List ℕ) (p v : ℕ) → p < length w → slice_index (slice_set w p v) p ≡ v
new_word w p v l = get_or-set_same w p v 0 l

pub same_word : (w : List ℕ) (p v q : ℕ) → q ≢ p → slice_index (slice_set w p v) q ≡ slice_index w q
same_word w p v q ne = get_or-set_other w p q v 0 ne
