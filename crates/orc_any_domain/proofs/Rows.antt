-- Rows and their places in a list.
use Rattle.std.proofs.Common.{◌≡◌, ◌≢◌, ℕ, zero, suc, ◌<◌, List, [], ◌∷◌, ◌++◌, length, Bool, if◌then◌else◌, Some, slice_get, eq-eqb, ne_eqb, sym, ap, ◌∙◌, subst, arith}
use mathlib.Core.Logic.{dite}
use native.Mathlib.Decide.{ℕ_discrete}
use Rattle.orc_any_domain.specs.Rows.{Once, index_of}

pub some_one : {A : Type 0} (a b : A) → Some a ≡ Some b → a ≡ b
some_one a b e = cc

pub index_here : (row x : ℕ) (xs : List ℕ) → x ≡ row → index_of row (x ∷ xs) ≡ 0
index_here row x xs e = ap (λ (b : Bool). if b then 0 else suc (index_of row xs)) (eq-eqb x row e)

pub index_later : (row x : ℕ) (xs : List ℕ) → x ≢ row → index_of row (x ∷ xs) ≡ suc (index_of row xs)
index_later row x xs ne = ap (λ (b : Bool). if b then 0 else suc (index_of row xs)) (ne_eqb x row ne)

-- where a row stands, its place finds it
pub at_index : (row : ℕ) (g : List ℕ) → index_of row g < length g → slice_get g (index_of row g) ≡ Some row
at_index row [] l = absurd (omega arith)
at_index row (x ∷ xs) l = dite (ℕ_discrete x row)
    (λ e. subst (λ i. slice_get (x ∷ xs) i ≡ Some row) (sym (index_here row x xs e)) (ap Some e))
    (λ ne. let s = index_later row x xs ne in subst (λ i. slice_get (x ∷ xs) i ≡ Some row) (sym s) (at_index row xs (omega (arith, s))))

pub index_in : (row : ℕ) (g : List ℕ) (i : ℕ) → slice_get g i ≡ Some row → index_of row g < length g
index_in row [] i e = cc
index_in row (x ∷ xs) zero e = let s = index_here row x xs (some_one x row e) in omega (arith, s)
index_in row (x ∷ xs) (suc i) e = dite (ℕ_discrete x row)
    (λ q. let s = index_here row x xs q in omega (arith, s))
    (λ ne. let s = index_later row x xs ne in let l = index_in row xs i e in omega (arith, s, l))

pub index_at : (row : ℕ) (g : List ℕ) (i : ℕ) → Once g → slice_get g i ≡ Some row → index_of row g ≡ i
index_at row g i once e = once (index_of row g) i row (at_index row g (index_in row g i e)) e

pub index_grown : (row : ℕ) (g more : List ℕ) → index_of row g < length g → index_of row (g ++ more) ≡ index_of row g
index_grown row [] more l = absurd (omega arith)
index_grown row (x ∷ xs) more l = dite (ℕ_discrete x row)
    (λ e. index_here row x (xs ++ more) e ∙ sym (index_here row x xs e))
    (λ ne. let s = index_later row x xs ne in index_later row x (xs ++ more) ne ∙ (ap suc (index_grown row xs more (omega (arith, s))) ∙ sym s))
