-- The longer of two lists, members, and lists of at most one element.
use Rattle.std.specs.Prelude.{List, [], length, slice_index_or, ℕ, ◌<◌, ◌∷◌, ◌≡◌, ◌⊎◌}
use mathlib.Core.List.{IsPrefix}

-- a list is the longer one of two, of which the shorter is a prefix
abbrev pub IsLonger : {A : Type 0} → List A → List A → List A → Type 0
IsLonger xs ys longer = (IsPrefix ys xs × (longer ≡ xs)) ⊎ (IsPrefix xs ys × (longer ≡ ys))

-- P holds of the element, if there is one; there aren't two
abbrev pub Each : {A : Type 0} → (A → Type 0) → List A → Type 0
Each P [] = Unit {0}
Each P (x ∷ []) = P x
Each P (x ∷ y ∷ ys) = ⊥

-- a stands in the list
abbrev pub Among : {A : Type 0} → A → List A → Type 0
Among a [] = ⊥
Among a (x ∷ xs) = (x ≡ a) ⊎ Among a xs

-- P holds of each element and its place
abbrev pub EachAt : {A : Type 0} → (ℕ → A → Type 0) → List A → Type 0
EachAt {A} P xs = (i : ℕ) (d : A) → i < length xs → P i (slice_index_or xs i d)

-- each item of the one list is this part of the item of the other list at its place
abbrev pub EachFrom : {A B : Type 0} → (A → B) → List A → List B → Type 0
EachFrom {A} {B} part xs ys = (i : ℕ) (x : A) (y : B) → i < length ys → part (slice_index_or xs i x) ≡ slice_index_or ys i y
