-- Prefixes of lists.
use Rattle.std.proofs.Common.{List, [], arith, get_or, length, length-append, ◌++◌, ◌∙◌, ◌≡◌, ◌∷◌, ◌⊎◌, ap, append-nil, inl, inr, refl, sym, ⊎_elim}
use Rattle.std.proofs.lemmas.List.{nil_from_length}
use mathlib.Core.List.{IsPrefix}
use Rattle.orc_heap.proofs.Pieces.{goes_on}

-- a list is a prefix of one that is the same
pub prefix_same : {A : Type 0} (xs ys : List A) → ys ≡ xs → IsPrefix xs ys
prefix_same xs ys e = ([], append-nil xs ∙ sym e)

-- and a prefix of a list stays one where that list grows
pub prefix_more : {A : Type 0} (xs ys more : List A) → IsPrefix xs ys → IsPrefix xs (ys ++ more)
prefix_more xs ys more p = goes_on xs ys (ys ++ more) p (more, refl)

pub front_nil : {A : Type 0} (xs ys : List A) → xs ++ ys ≡ [] → xs ≡ []
front_nil [] ys e = refl
front_nil (x ∷ xs) ys e = absurd (cc)

abbrev rest_of : {A : Type 0} → List A → List A
rest_of [] = []
rest_of (x ∷ xs) = xs

fronts : {A : Type 0} (xs ys p q : List A) → xs ++ p ≡ ys ++ q → IsPrefix ys xs ⊎ IsPrefix xs ys
fronts xs [] p q e = inl (xs, refl)
fronts [] (y ∷ ys) p q e = inr (y ∷ ys, refl)
fronts (x ∷ xs) (y ∷ ys) p q e = let same : x ≡ y = ap (λ l. get_or l 0 x) e in ⊎_elim
    (λ (b : IsPrefix ys xs). inl (b.0, λ i. sym same i ∷ b.1 i))
    (λ (b : IsPrefix xs ys). inr (b.0, λ i. same i ∷ b.1 i))
    (fronts xs ys p q (ap rest_of e))

-- of two prefixes of one list one is a prefix of the other
pub prefixes_of_one : {A : Type 0} (j xs ys : List A) → IsPrefix xs j → IsPrefix ys j → IsPrefix ys xs ⊎ IsPrefix xs ys
prefixes_of_one j xs ys p q = fronts xs ys p.0 q.0 (p.1 ∙ sym q.1)

-- two prefixes of one another are one list
pub both_prefixes : {A : Type 0} (xs ys : List A) → IsPrefix xs ys → IsPrefix ys xs → ys ≡ xs
both_prefixes {A} xs ys p q =
    let long = length-append xs p.0 in
    let back = length-append ys q.0 in
    let one = ap (λ (z : List A). length z) p.1 in
    let two = ap (λ (z : List A). length z) q.1 in
    let none : p.0 ≡ [] = nil_from_length p.0 (omega (arith, long, back, one, two)) in
    sym p.1 ∙ (ap (λ z. xs ++ z) none ∙ append-nil xs)
