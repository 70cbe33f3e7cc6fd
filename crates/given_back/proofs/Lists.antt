-- Facts of all elements of a list.
use Rattle.std.proofs.Common.{All, IfSome, List, Option, Some, [], arith, subst, suc, sym, ◌++◌, ◌∷◌, ◌≡◌}
use Rattle.std.proofs.lemmas.List.Elements.{All-push}

-- one more element
pub all_more : {A : Type 0} (P : A → Type 0) (xs ys : List A) (x : A) → ys ≡ xs ++ x ∷ [] → All P xs → P x → All P ys
all_more {A} P xs ys x is all one = subst (λ (zs : List A). All P zs) (sym is) (All-push P xs x all one)

-- none yet
pub all_none : {A : Type 0} (P : A → Type 0) (xs : List A) → xs ≡ [] → All P xs
all_none {A} P xs is = subst (λ (zs : List A). All P zs) (sym is) (λ k d low. absurd (omega (arith, low)))

-- the first, and the others
pub all_first : {A : Type 0} (P : A → Type 0) (all xs : List A) (x : A) → all ≡ x ∷ xs → All P all → P x
all_first {A} P all xs x is each = subst (λ (zs : List A). All P zs) is each 0 x (omega arith)

pub all_others : {A : Type 0} (P : A → Type 0) (all xs : List A) (x : A) → all ≡ x ∷ xs → All P all → All P xs
all_others {A} P all xs x is each k d low = subst (λ (zs : List A). All P zs) is each (suc k) d (omega (arith, low))

-- a fact of the value that there is
pub of_some : {A : Type 0} (P : A → Type 0) (o : Option A) (x : A) → o ≡ Some x → IfSome o P → P x
of_some {A} P o x is h = subst (λ (z : Option A). IfSome z P) is h
