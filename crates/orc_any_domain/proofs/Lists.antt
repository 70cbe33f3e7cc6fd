-- Lists side by side, and lists without their first element.
use Rattle.std.proofs.Common.{List, [], ap, drop, arith, length, refl, subst, suc, sym, zero, ℕ, ◌<◌, ◌∷◌, ◌≡◌}
use Rattle.std.specs.List.{AllByRecursion}
use Rattle.std.specs.Prelude.{slice_index_or}
use Rattle.orc_history.specs.Lists.{Pairwise}

module _ {A B : Type 0} where
  pub pairwise_map : (R S : A → B → Type 0) → ((x : A) (y : B) → R x y → S x y) → (xs : List A) (ys : List B) → Pairwise R xs ys → Pairwise S xs ys
  pairwise_map R S f [] [] h = tt
  pairwise_map R S f (x ∷ xs) (y ∷ ys) h = (f x y h.0, pairwise_map R S f xs ys h.1)
  pairwise_map R S f [] (y ∷ ys) h = absurd h
  pairwise_map R S f (x ∷ xs) [] h = absurd h

  pub pairwise_all : (R : A → B → Type 0) (P : A → Type 0) (Q : B → Type 0) → ((x : A) (y : B) → R x y → P x → Q y) → (xs : List A) (ys : List B)
      → Pairwise R xs ys → AllByRecursion P xs → AllByRecursion Q ys
  pairwise_all R P Q f [] [] h p = tt
  pairwise_all R P Q f (x ∷ xs) (y ∷ ys) h p = (f x y h.0 p.0, pairwise_all R P Q f xs ys h.1 p.1)
  pairwise_all R P Q f [] (y ∷ ys) h p = absurd h
  pairwise_all R P Q f (x ∷ xs) [] h p = absurd h

  pub pairwise_long : (R : A → B → Type 0) (xs : List A) (ys : List B) → Pairwise R xs ys → length ys ≡ length xs
  pairwise_long R [] [] h = refl
  pairwise_long R (x ∷ xs) (y ∷ ys) h = ap suc (pairwise_long R xs ys h.1)
  pairwise_long R [] (y ∷ ys) h = absurd h
  pairwise_long R (x ∷ xs) [] h = absurd h

pub pairwise_at : {A B : Type 0} (R : A → B → Type 0) (xs : List A) (ys : List B) → Pairwise R xs ys → (i : ℕ) (a : A) (b : B) → i < length ys
    → R (slice_index_or xs i a) (slice_index_or ys i b)
pairwise_at R [] [] h i a b l = absurd (omega (arith, l))
pairwise_at R (x ∷ xs) (y ∷ ys) h zero a b l = h.0
pairwise_at R (x ∷ xs) (y ∷ ys) h (suc i) a b l = pairwise_at R xs ys h.1 i a b (omega (arith, l))
pairwise_at R [] (y ∷ ys) h i a b l = absurd h
pairwise_at R (x ∷ xs) [] h i a b l = absurd h

pub pairwise_join : {A B C : Type 0} (R : A → B → Type 0) (S : B → C → Type 0) (T : A → C → Type 0) → ((x : A) (y : B) (z : C) → R x y → S y z → T x z)
    → (xs : List A) (ys : List B) (zs : List C) → Pairwise R xs ys → Pairwise S ys zs → Pairwise T xs zs
pairwise_join R S T f [] [] [] h k = tt
pairwise_join R S T f (x ∷ xs) (y ∷ ys) (z ∷ zs) h k = (f x y z h.0 k.0, pairwise_join R S T f xs ys zs h.1 k.1)
pairwise_join R S T f [] [] (z ∷ zs) h k = absurd k
pairwise_join R S T f [] (y ∷ ys) zs h k = absurd h
pairwise_join R S T f (x ∷ xs) [] zs h k = absurd h
pairwise_join R S T f (x ∷ xs) (y ∷ ys) [] h k = absurd k

-- what holds of all elements holds of all behind the first
pub all_behind : {A : Type 0} (P : A → Type 0) (all : List A) (x : A) (xs : List A) → all ≡ x ∷ xs → AllByRecursion P all → AllByRecursion P xs
all_behind P all x xs is h = (subst (AllByRecursion P) is h).1

-- a list from which its first element was removed
pub first_removed : {A : Type 0} (xs : List A) (x : A) → x ≡ slice_index_or xs 0 x → 0 < length xs → xs ≡ x ∷ drop 1 xs
first_removed [] x e l = absurd (omega (arith, l))
first_removed (y ∷ xs) x e l = ap (λ z. z ∷ xs) (sym e)

pub all_unit : {A : Type 0} (xs : List A) → AllByRecursion (λ (x : A). Unit {0}) xs
all_unit [] = tt
all_unit (x ∷ xs) = (tt, all_unit xs)
