-- Lists of passes, of which the last one was used.
use Rattle.std.proofs.Common.{List, [], arith, suc, zero, ℕ, ◌++◌, ◌∷◌, length}
use Rattle.orc_shared_words.specs.Lists.{EachAt}

one_at : {A : Type 0} (P : ℕ → A → Type 0) (x : A) → P 0 x → EachAt P (x ∷ [])
one_at P x p zero d low = p
one_at P x p (suc i) d low = absurd (omega (arith, low))

-- what holds of each holds of each once the last was used, if the use keeps it
pub last_at : {A : Type 0} (P : ℕ → A → Type 0) (ws : List A) (x y : A) → EachAt P (ws ++ x ∷ []) → ((i : ℕ) → P i x → P i y)
    → EachAt P (ws ++ y ∷ [])
last_at P [] x y all keeps i d low = one_at P y (keeps 0 (all 0 x (omega arith))) i d low
last_at P (w ∷ ws) x y all keeps zero d low = all 0 d (omega arith)
last_at P (w ∷ ws) x y all keeps (suc i) d low =
    last_at (λ k. P (suc k)) ws x y (λ k e l. all (suc k) e (omega (arith, l))) (λ k. keeps (suc k)) i d (omega (arith, low))

-- what holds of each holds of each but the last
pub front_at : {A : Type 0} (P : ℕ → A → Type 0) (ws : List A) (x : A) → EachAt P (ws ++ x ∷ []) → EachAt P ws
front_at P [] x all i d low = absurd (omega (arith, low))
front_at P (w ∷ ws) x all zero d low = all 0 d (omega arith)
front_at P (w ∷ ws) x all (suc i) d low =
    front_at (λ k. P (suc k)) ws x (λ k e l. all (suc k) e (omega (arith, l))) i d (omega (arith, low))

-- and of the last
pub of_last : {A : Type 0} (P : ℕ → A → Type 0) (ws : List A) (x : A) → EachAt P (ws ++ x ∷ []) → P (length ws) x
of_last P [] x all = all 0 x (omega arith)
of_last P (w ∷ ws) x all = of_last (λ k. P (suc k)) ws x (λ k e l. all (suc k) e (omega (arith, l)))

-- what holds of each, and of one more at its place, holds of each of them all
pub with_last : {A : Type 0} (P : ℕ → A → Type 0) (ws : List A) (x : A) → EachAt P ws → P (length ws) x → EachAt P (ws ++ x ∷ [])
with_last P [] x all here i d low = one_at P x here i d low
with_last P (w ∷ ws) x all here zero d low = all 0 d (omega arith)
with_last P (w ∷ ws) x all here (suc i) d low =
    with_last (λ k. P (suc k)) ws x (λ k e l. all (suc k) e (omega (arith, l))) here i d (omega (arith, low))
