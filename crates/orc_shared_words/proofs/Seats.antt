-- The views of the seats of a table: one changes, or one comes.
use Rattle.std.proofs.Common.{Bool, List, None, Option, Some, [], false, get_or, inl, inr, length, refl, set, subst, suc, sym, ap, true, true≢false, zero, ℕ, ◌++◌, ◌∙◌, ◌≡◌, ◌≢◌, ◌∷◌, ◌⊎◌, ⊎_elim}
use mathlib.Core.Option.{some, some-injective, some-ne-none}
use lib.ListN.{get_elem?}
use Rattle.atomic_table.proofs.Lists.{at_set}
use Rattle.orc_shared_words.specs.Lists.{Among}

abbrev number : Option ℕ → ℕ
number None = 0
number (Some a) = a

pub one_number : (o : Option ℕ) (a b : ℕ) → o ≡ Some a → o ≡ Some b → b ≡ a
one_number o a b p q = ap number (sym q ∙ p)

abbrev is_none_bit : Option ℕ → Bool
is_none_bit None = true
is_none_bit (Some a) = false

pub none_some : (o : Option ℕ) (a : ℕ) → o ≡ None → o ≡ Some a → ⊥
none_some o a p q = true≢false (ap is_none_bit (sym p ∙ q))

-- the seat id has the view w now
pub at_changed : {V : Type 0} (P : ℕ → V → Type 0) (views : List V) (id : ℕ) (w : V) → P id w → ((i : ℕ) (u : V) → i ≢ id → get_elem? views i ≡ some u → P i u)
    → (i : ℕ) (u : V) → get_elem? (set views id w) i ≡ some u → P i u
at_changed {V} P views id w mine others i u e = ⊎_elim (λ (t : (i ≡ id) × (w ≡ u)). subst (λ (z : ℕ × V). P z.0 z.1) (λ x. (sym t.0 x, t.1 x)) mine)
    (λ (t : (i ≢ id) × (get_elem? views i ≡ some u)). others i u t.0 t.1) (at_set views id i w u e)

pub set_there : {V : Type 0} (l : List V) (i : ℕ) (a b : V) → get_elem? l i ≡ some a → get_elem? (set l i b) i ≡ some b
set_there [] i a b e = absurd (some-ne-none a (sym e))
set_there (x ∷ xs) zero a b e = refl
set_there (x ∷ xs) (suc i) a b e = set_there xs i a b e

at_end : {V : Type 0} (l : List V) (a b : V) (i : ℕ) → get_elem? (l ++ a ∷ []) i ≡ some b → (get_elem? l i ≡ some b) ⊎ ((a ≡ b) × (i ≡ length l))
at_end [] a b zero e = inr (some-injective a b e, refl)
at_end [] a b (suc i) e = absurd (some-ne-none b (sym e))
at_end (x ∷ xs) a b zero e = inl e
at_end (x ∷ xs) a b (suc i) e = ⊎_elim inl (λ t. inr (t.0, ap suc t.1)) (at_end xs a b i e)

-- a seat of the view w came
pub at_grown : {V : Type 0} (P : ℕ → V → Type 0) (views : List V) (w : V) → P (length views) w → ((i : ℕ) (u : V) → get_elem? views i ≡ some u → P i u)
    → (i : ℕ) (u : V) → get_elem? (views ++ w ∷ []) i ≡ some u → P i u
at_grown {V} P views w new old i u e =
    ⊎_elim (old i u) (λ (t : (w ≡ u) × (i ≡ length views)). subst (λ (z : ℕ × V). P z.0 z.1) (λ x. (sym t.1 x, t.0 x)) new) (at_end views w u i e)

-- there is one seat
pub at_one : {V : Type 0} (v : V) (P : ℕ → V → Type 0) → P 0 v → (i : ℕ) (u : V) → get_elem? (v ∷ []) i ≡ some u → P i u
at_one v P p zero u e = subst (P 0) (some-injective v u e) p
at_one v P p (suc i) u e = absurd (some-ne-none u (sym e))

pub among_behind : {A : Type 0} (a : A) (xs ys : List A) → Among a ys → Among a (xs ++ ys)
among_behind a [] ys q = q
among_behind a (x ∷ xs) ys q = inr (among_behind a xs ys q)

pub among_front : {A : Type 0} (a : A) (xs ys : List A) → Among a xs → Among a (xs ++ ys)
among_front a [] ys q = absurd q
among_front a (x ∷ xs) ys q = ⊎_elim inl (λ q. inr (among_front a xs ys q)) q

pub among_either : {A : Type 0} (a : A) (xs ys : List A) → Among a (xs ++ ys) → Among a xs ⊎ Among a ys
among_either a [] ys q = inr q
among_either a (x ∷ xs) ys q = ⊎_elim (λ e. inl (inl e)) (λ q. ⊎_elim (λ p. inl (inr p)) (λ p. inr p) (among_either a xs ys q)) q

pub index_there : (l : List ℕ) (i a : ℕ) → get_elem? l i ≡ some a → get_or l i 0 ≡ a
index_there [] i a e = absurd (some-ne-none a (sym e))
index_there (x ∷ xs) zero a e = some-injective x a e
index_there (x ∷ xs) (suc i) a e = index_there xs i a e
