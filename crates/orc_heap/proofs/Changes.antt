-- Places of lists, and items of a list of which one is changed.
use Rattle.std.proofs.Common.{List, [], ap, arith, inl, inr, length, refl, suc, zero, ℕ, ◌++◌, ◌∷◌, ◌<◌, ◌≡◌, ◌≢◌, ◌⊎◌}
use Rattle.std.specs.List.{slice_get}
use Rattle.std.specs.Prelude.{Some}
use Rattle.orc_heap.specs.Heap.{change}

-- the changed item
pub get-change_same : {A : Type 0} (f : A → A) (i : ℕ) (xs : List A) (x : A) → slice_get xs i ≡ Some x → slice_get (change f i xs) i ≡ Some (f x)
get-change_same f zero (y ∷ xs) x e = cc
get-change_same f (suc i) (y ∷ xs) x e = get-change_same f i xs x e
get-change_same f i [] x e = cc

-- another item
pub get-change_other : {A : Type 0} (f : A → A) (i j : ℕ) (xs : List A) → j ≢ i → slice_get (change f i xs) j ≡ slice_get xs j
get-change_other f i j [] ne = refl
get-change_other f zero zero (y ∷ xs) ne = absurd (ne refl)
get-change_other f zero (suc j) (y ∷ xs) ne = refl
get-change_other f (suc i) zero (y ∷ xs) ne = refl
get-change_other f (suc i) (suc j) (y ∷ xs) ne = get-change_other f i j xs (λ e. ne (ap suc e))

-- an item stays as the list grows
pub get-grown : {A : Type 0} (i : ℕ) (xs ys : List A) (x : A) → slice_get xs i ≡ Some x → slice_get (xs ++ ys) i ≡ Some x
get-grown zero (y ∷ xs) ys x e = e
get-grown (suc i) (y ∷ xs) ys x e = get-grown i xs ys x e
get-grown i [] ys x e = cc

-- the item that is added
pub get-added : {A : Type 0} (xs : List A) (x : A) → slice_get (xs ++ x ∷ []) (length xs) ≡ Some x
get-added [] x = refl
get-added (y ∷ xs) x = get-added xs x

pub length-change : {A : Type 0} (f : A → A) (i : ℕ) (xs : List A) → length (change f i xs) ≡ length xs
length-change f i [] = refl
length-change f zero (x ∷ xs) = refl
length-change f (suc i) (x ∷ xs) = ap suc (length-change f i xs)

-- an item after a change at some index: it was changed, or it is as it was
pub get-change : {A : Type 0} (f : A → A) (i j : ℕ) (xs : List A) (x : A) → slice_get xs j ≡ Some x
    → ((i ≡ j) × (slice_get (change f i xs) j ≡ Some (f x))) ⊎ ((i ≢ j) × (slice_get (change f i xs) j ≡ Some x))
get-change f i j [] x e = cc
get-change f zero zero (y ∷ xs) x e = inl (refl, cc)
get-change f zero (suc j) (y ∷ xs) x e = inr ((λ h. cc), e)
get-change f (suc i) zero (y ∷ xs) x e = inr ((λ h. cc), e)
get-change f (suc i) (suc j) (y ∷ xs) x e =
    elim (get-change f i j xs x e) [ inl r ↦ inl (ap suc r.0, r.1) | inr r ↦ inr ((λ h. r.0 (cc)), r.1) ]

pub get_lt : {A : Type 0} (xs : List A) (i : ℕ) (x : A) → slice_get xs i ≡ Some x → i < length xs
get_lt [] i x e = cc
get_lt (y ∷ xs) zero x e = omega arith
get_lt (y ∷ xs) (suc i) x e = let l = get_lt xs i x e in omega arith
