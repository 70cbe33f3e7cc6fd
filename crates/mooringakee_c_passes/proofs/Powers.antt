-- Powers of two.
use Rattle.std.proofs.Common.{arith, inl, inr, max, suc, ℕ, ◌/◌, ◌<◌, ◌^◌, ◌≡◌, ◌≤◌, ◌⊎◌}
use Rattle.std.proofs.Math.Nat.{max-eq_right, one-le-pow, pow-succ'}
use Rattle.std.proofs.Math.Pow.{pow_mono}
use Rattle.std.proofs.lemmas.Bool.{cases_lt}

-- a power of two that is no less than another, and whose half is less, is that other one
pub same_power : (n i p k : ℕ) → n ≡ 2 ^ i → p ≡ 2 ^ k → n ≤ p → p / 2 < max 1 n → p ≡ n
same_power n i p k is power low high = cases (cases_lt i k)
  where
    some : 1 ≤ n
    some = omega (arith, is, one-le-pow i 2 (omega arith))

    half : p / 2 < n
    half = omega (arith, high, max-eq_right some)

    cases : (i < k) ⊎ (k ≤ i) → p ≡ n
    cases (inl less) = absurd (omega (arith, half, is, power, pow-succ' 2 i, pow_mono {i = suc i} {j = k} (omega (arith, less))))
    cases (inr more) = omega (arith, low, is, power, pow_mono {i = k} {j = i} more)
