-- Lists whose items name their places, of which the last is popped.
use Rattle.std.proofs.Common.{IfSome, List, None, Option, Some, [], ap, arith, length, length-append, refl, slice_index_or, sym, ℕ, ◌++◌, ◌<◌, ◌∙◌, ◌∷◌, ◌≡◌}
use Rattle.std.proofs.lemmas.List.{get_or_append_left}
use Rattle.std.specs.Option.{option_to_list}

-- those that are left name theirs
pub left_in_place : {A : Type 0} (f : A → ℕ) (xs ys : List A) (r : Option A) → xs ≡ ys ++ option_to_list r
    → ((i : ℕ) (p : A) → i < length xs → f (slice_index_or xs i p) ≡ i) → (i : ℕ) (p : A) → i < length ys → f (slice_index_or ys i p) ≡ i
left_in_place {A} f xs ys r is all i p low =
    let same : f (slice_index_or xs i p) ≡ f (slice_index_or ys i p) =
    ap (λ (zs : List A). f (slice_index_or zs i p)) is ∙ ap f (get_or_append_left ys (option_to_list r) p i low) in
    sym same ∙ all i p (omega (arith, ap length is, length-append ys (option_to_list r)))

-- the last item stands behind the others
last_in : {A : Type 0} (ys : List A) (p : A) → slice_index_or (ys ++ p ∷ []) (length ys) p ≡ p
last_in [] p = refl
last_in (y ∷ ys) p = last_in ys p

-- and the popped one names that behind them
pub popped_in_place : {A : Type 0} (f : A → ℕ) (xs ys : List A) (r : Option A) → xs ≡ ys ++ option_to_list r
    → ((i : ℕ) (p : A) → i < length xs → f (slice_index_or xs i p) ≡ i) → IfSome r (λ p. f p ≡ length ys)
popped_in_place f xs ys None is all = tt
popped_in_place {A} f xs ys (Some p) is all =
    let same : f (slice_index_or xs (length ys) p) ≡ f p =
    ap (λ (zs : List A). f (slice_index_or zs (length ys) p)) is ∙ ap f (last_in ys p) in
    sym same ∙ all (length ys) p (omega (arith, ap length is, length-append ys (p ∷ [])))
