-- Whether some line is a Rush.
use Rattle.std.proofs.Common.{◌≡◌, ◌∙◌, ◌+◌, ◌∷◌, Bool, List, [], ℕ, zero, suc, Some, true, false, refl, inl, inr, slice_get, take}
use Rattle.std.specs.List.{list_any}
use Rattle.std.proofs.lemmas.Bool.{cases_Bool}
use Rattle.std.proofs.lemmas.List.Folds.{list_any_more}
use Rattle.std.proofs.lemmas.Option.{get_or_from_slice_get, slice_get_within}

-- a line that is one
pub any_at : {X : Type 0} (test : X → Bool) (xs : List X) (i : ℕ) (x : X) → slice_get xs i ≡ Some x → test x ≡ true → list_any test xs ≡ true
any_at test [] i x e t = cc e
any_at test (y ∷ ys) zero x e t = let same : y ≡ x = cc e in rw (same, t) refl
any_at test (y ∷ ys) (suc i) x e t = elim (cases_Bool (test y)) [
  | inl h ↦ rw h refl
  | inr h ↦ rw h (any_at test ys i x e t)
]

-- one more that isn't
pub none_more : {X : Type 0} (test : X → Bool) (xs : List X) (i : ℕ) (x : X) → slice_get xs i ≡ Some x → test x ≡ false
    → list_any test (take i xs) ≡ false → list_any test (take (i + 1) xs) ≡ false
none_more test xs i x e t none =
    list_any_more test xs i x (slice_get_within xs i x e) ∙ rw (none, get_or_from_slice_get xs i x x e, t) refl
