-- What a loop that looks for something has found so far.
use Rattle.std.proofs.Common.{Bool, List, [], add-one, ap, arith, false, length, refl, true, ℕ, ◌+◌, ◌∙◌, ◌∷◌, ◌≡◌, ◌≤◌}
use Rattle.std.proofs.lemmas.List.Sums.{count_by-le-length}
use Rattle.std.specs.List.{list_any}
use Rattle.std.specs.Prelude.{not, ◌==◌, ◌||◌}
use Rattle.orc_words.specs.Packed.{bit}
use Rattle.orc_core.specs.Sums.{some_below}
use Rattle.orc_sound.proofs.Rows.{listings_cons}
use Rattle.orc_sound.specs.RetirementToken.{listings}

unfoldable pub found_below : ℕ → (ℕ → Bool) → Bool
found_below n p = some_below n p

pub found_none : (p : ℕ → Bool) → found_below 0 p ≡ false
unfolding found_below
found_none p = refl

pub found_more : (n : ℕ) (p : ℕ → Bool) → found_below (n + 1) p ≡ (found_below n p || p n)
unfolding found_below
found_more n p = rw add-one refl

pub found_all : (n : ℕ) (p : ℕ → Bool) → found_below n p ≡ some_below n p
unfolding found_below
found_all n p = refl

listed_next : (x r n : ℕ) (b : Bool) → b ≡ not (n == 0) → ((x == r) || b) ≡ not (bit (x == r) + n == 0)
listed_next x r n b e = cases (x == r)
  where
    positive : (n : ℕ) → (1 + n == 0) ≡ false
    positive n = grind arith

    same : (n : ℕ) → n ≡ 0 + n
    same n = omega arith

    cases : (t : Bool) → (t || b) ≡ not (bit t + n == 0)
    cases true = rw (positive n)
    cases false = e ∙ ap (λ m. not (m == 0)) (same n)

-- a list has the row where some entry is it
pub some_listed : (xs : List ℕ) (r : ℕ) → list_any (λ q. q == r) xs ≡ not (listings xs r == 0)
some_listed [] r = refl
some_listed (x ∷ xs) r = rw (listings_cons x xs r) (listed_next x r (listings xs r) (list_any (λ q. q == r) xs) (some_listed xs r))

pub listings_le : (xs : List ℕ) (r : ℕ) → listings xs r ≤ length xs
listings_le xs r = count_by-le-length (λ q. q == r) xs
