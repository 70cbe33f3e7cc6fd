-- Where a list that grew by one is split.
use Rattle.std.proofs.Common.{List, [], ap, inl, inr, refl, sym, ◌++◌, ◌∷◌, ◌≡◌, ◌⊎◌}

cons_first : {A : Type 0} {x y : A} {xs ys : List A} → x ∷ xs ≡ y ∷ ys → x ≡ y
cons_first e = cc

cons_rest : {A : Type 0} {x y : A} {xs ys : List A} → x ∷ xs ≡ y ∷ ys → xs ≡ ys
cons_rest e = cc

pub split_more : {A : Type 0} (xs : List A) (x : A) (ys zs : List A) → xs ++ x ∷ [] ≡ ys ++ zs
    → (ys ≡ xs ++ x ∷ []) ⊎ ((ws : List A) × (zs ≡ ws ++ x ∷ []) × (xs ≡ ys ++ ws))
split_more xs x [] zs e = inr (xs, sym e, refl)
split_more [] x (y ∷ []) zs e = inl (ap (λ z. z ∷ []) (sym (cons_first e)))
split_more [] x (y ∷ v ∷ ys) zs e = let bad = cons_rest e in cc
split_more (w ∷ xs) x (y ∷ ys) zs e =
    elim (split_more xs x ys zs (cons_rest e)) [
      | inl same ↦ inl (let first = cons_first e in cc)
      | inr more ↦ inr (more.0, more.1, (let first = cons_first e in let rest = more.2 in cc))
    ]
