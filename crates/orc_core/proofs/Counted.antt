-- The sums that a loop over a state makes, step by step.
use Rattle.std.proofs.Common.{◌≡◌, ℕ, ◌+◌, Bool, refl, add-one}
use Rattle.orc_words.specs.Packed.{bit}
use Rattle.orc_core.specs.Sums.{sum_below, count_below}

unfoldable pub summed : ℕ → (ℕ → ℕ) → ℕ
summed n f = sum_below n f

pub sum_none : (f : ℕ → ℕ) → summed 0 f ≡ 0
unfolding summed
sum_none f = refl

pub sum_more : (n : ℕ) (f : ℕ → ℕ) → summed (n + 1) f ≡ summed n f + f n
unfolding summed
sum_more n f = rw add-one refl

pub sum_all : (n : ℕ) (f : ℕ → ℕ) → summed n f ≡ sum_below n f
unfolding summed
sum_all n f = refl

unfoldable pub counted : ℕ → (ℕ → Bool) → ℕ
counted n p = count_below n p

pub count_none : (p : ℕ → Bool) → counted 0 p ≡ 0
unfolding counted
count_none p = refl

pub count_more : (n : ℕ) (p : ℕ → Bool) → counted (n + 1) p ≡ counted n p + bit (p n)
unfolding counted
count_more n p = rw add-one refl

pub count_all : (n : ℕ) (p : ℕ → Bool) → counted n p ≡ count_below n p
unfolding counted
count_all n p = refl
