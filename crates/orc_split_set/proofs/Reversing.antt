-- The lowest bit in which two numbers differ decides which of them is lower with its bits reversed.
use Rattle.std.proofs.Common.{Bool, ap, arith, bit_xor, false, inl, inr, suc, sym, true, zero, ℕ, ◌%◌, ◌*◌, ◌+◌, ◌/◌, ◌<◌, ◌^◌, ◌∙◌, ◌≡◌, ◌≢◌, ◌≤◌, ◌⊎◌}
use Rattle.std.proofs.Math.Nat.{add-mul, eq-zero-or-pos, pow-succ'}
use Rattle.std.proofs.lemmas.Nat.{mul-le, xor_lt}
use Rattle.std.proofs.lemmas.Nat.Bits.{bit_at-lt, bit_at-suc, bit_at-trailing_zeros, bit_at-zero, bit_at_lowest, bit_at_xor, same_from_bits}
use Rattle.std.specs.Int.{bit_at, reverse_bits, reverse_bits_onto, trailing_zeros, w64}
use Rattle.orc_split_rule.specs.SplitOrder.{reversed}
use Rattle.orc_split_set.specs.SplitSearches.{split_place}
use native.Mathlib.Nat.{mul_assoc}

-- after the bits of a
after : (k n a : ℕ) → reverse_bits_onto k n a ≡ a * 2 ^ k + reverse_bits_onto k n 0
unfolding reverse_bits_onto
after zero n a = omega arith
after (suc k) n a =
    let one = after k (n / 2) (a * 2 + n % 2) in
    let two = after k (n / 2) (0 * 2 + n % 2) in
    let power : 2 ^ suc k ≡ 2 * 2 ^ k = pow-succ' 2 k in
    let parts : (a * 2 + n % 2) * 2 ^ k ≡ a * 2 * 2 ^ k + n % 2 * 2 ^ k = add-mul (a * 2) (n % 2) (2 ^ k) in
    let whole : a * 2 * 2 ^ k ≡ a * 2 ^ suc k = mul_assoc a 2 (2 ^ k) ∙ ap (λ (x : ℕ). a * x) (sym power) in
    let last : (0 * 2 + n % 2) * 2 ^ k ≡ n % 2 * 2 ^ k = ap (λ (x : ℕ). x * 2 ^ k) (omega arith) in
    omega (arith, one, two, parts, whole, last)

-- so many bits
low : (k n : ℕ) → reverse_bits_onto k n 0 < 2 ^ k
unfolding reverse_bits_onto
low zero n = omega arith
low (suc k) n =
    let one = after k (n / 2) (0 * 2 + n % 2) in
    let rest = low k (n / 2) in
    let bit : (0 * 2 + n % 2) * 2 ^ k ≤ 1 * 2 ^ k = mul-le (0 * 2 + n % 2) (2 ^ k) 1 (2 ^ k) (omega arith) (omega arith) in
    let power : 2 ^ suc k ≡ 2 * 2 ^ k = pow-succ' 2 k in
    omega (arith, one, rest, bit, power)

-- a has a 0 where they first differ, and b a 1
lower : (k a b t : ℕ) → t < k → bit_at a t ≡ 0 → bit_at b t ≡ 1 → ((i : ℕ) → i < t → bit_at a i ≡ bit_at b i)
    → reverse_bits_onto k a 0 < reverse_bits_onto k b 0
unfolding reverse_bits_onto
lower zero a b t less zeros ones same = absurd (omega (arith, less))
lower (suc k) a b zero less zeros ones same =
    let one = after k (a / 2) (0 * 2 + a % 2) in
    let two = after k (b / 2) (0 * 2 + b % 2) in
    let rest = low k (a / 2) in
    let none : (0 * 2 + a % 2) * 2 ^ k ≡ 0 * 2 ^ k = ap (λ (x : ℕ). x * 2 ^ k) (omega (arith, bit_at_lowest a, zeros)) in
    let some : (0 * 2 + b % 2) * 2 ^ k ≡ 1 * 2 ^ k = ap (λ (x : ℕ). x * 2 ^ k) (omega (arith, bit_at_lowest b, ones)) in
    omega (arith, one, two, rest, none, some)
lower (suc k) a b (suc t) less zeros ones same =
    let one = after k (a / 2) (0 * 2 + a % 2) in
    let two = after k (b / 2) (0 * 2 + b % 2) in
    let first : a % 2 ≡ b % 2 = omega (arith, bit_at_lowest a, bit_at_lowest b, same 0 (omega arith)) in
    let ends : (0 * 2 + a % 2) * 2 ^ k ≡ (0 * 2 + b % 2) * 2 ^ k = ap (λ (x : ℕ). (0 * 2 + x) * 2 ^ k) first in
    let rest = lower k (a / 2) (b / 2) t (omega (arith, less)) (sym (bit_at-suc a t) ∙ zeros) (sym (bit_at-suc b t) ∙ ones)
    (λ i below. sym (bit_at-suc a i) ∙ (same (suc i) (omega (arith, below)) ∙ bit_at-suc b i)) in
    omega (arith, one, two, ends, rest)

-- numbers of 64 bits
reversed_is : (n : ℕ) → n < 2 ^ 64 → reversed n ≡ reverse_bits w64 n
unfolding reversed
reversed_is n less = omega (arith, less)

pub reversed_fits : (n : ℕ) → n < 2 ^ 64 → reversed n < 2 ^ 64
reversed_fits n less = omega (arith, low 64 n, reversed_is n less)

-- two bits whose sum is even are one
even : (x y : ℕ) → x < 2 → y < 2 → (x + y) % 2 ≡ 0 → x ≡ y
even x y one two sum = omega (arith, one, two, sum)

same_bit : (a b i : ℕ) → bit_at (bit_xor a b) i ≡ 0 → bit_at a i ≡ bit_at b i
same_bit a b i none = even (bit_at a i) (bit_at b i) (bit_at-lt a i) (bit_at-lt b i) (sym (bit_at_xor a b i) ∙ none)

differing : (a b : ℕ) → a ≢ b → 0 < bit_xor a b
differing a b ne = cases (eq-zero-or-pos (bit_xor a b))
  where
    cases : (bit_xor a b ≡ 0) ⊎ (0 < bit_xor a b) → 0 < bit_xor a b
    cases (inl none) = absurd (ne (same_from_bits a b (λ i. same_bit a b i (ap (λ (x : ℕ). bit_at x i) none ∙ bit_at-zero i))))
    cases (inr some) = some

-- where two numbers of 64 bits first differ
module _ (a b : ℕ) (ne : a ≢ b) (fits_a : a < 2 ^ 64) (fits_b : b < 2 ^ 64) where
  told : (trailing_zeros w64 (bit_xor a b) < 64) × (bit_at (bit_xor a b) (trailing_zeros w64 (bit_xor a b)) ≡ 1) × ((i : ℕ)
      → i < trailing_zeros w64 (bit_xor a b) → bit_at (bit_xor a b) i ≡ 0)
  told = bit_at-trailing_zeros w64 (bit_xor a b) (differing a b ne) (xor_lt 64 a b fits_a fits_b)

  pub differ_low : trailing_zeros w64 (bit_xor a b) < 64
  differ_low = told.0

  -- the sum of their bits there is odd
  odd : (bit_at a (trailing_zeros w64 (bit_xor a b)) + bit_at b (trailing_zeros w64 (bit_xor a b))) % 2 ≡ 1
  odd = sym (bit_at_xor a b (trailing_zeros w64 (bit_xor a b))) ∙ told.1

  pub differ_before : bit_at a (trailing_zeros w64 (bit_xor a b)) ≡ 0 → reversed a < reversed b
  differ_before zeros =
      let other = bit_at-lt b (trailing_zeros w64 (bit_xor a b)) in
      let less = lower 64 a b (trailing_zeros w64 (bit_xor a b)) told.0 zeros (omega (arith, odd, zeros, other)) (λ i below. same_bit a b i (told.2 i below)) in
      omega (arith, less, reversed_is a fits_a, reversed_is b fits_b)

  pub differ_after : bit_at a (trailing_zeros w64 (bit_xor a b)) ≢ 0 → reversed b < reversed a
  differ_after ones =
      let mine = bit_at-lt a (trailing_zeros w64 (bit_xor a b)) in
      let other = bit_at-lt b (trailing_zeros w64 (bit_xor a b)) in
      let less = lower 64 b a (trailing_zeros w64 (bit_xor a b)) told.0 (omega (arith, odd, ones, mine, other)) (omega (arith, ones, mine))
      (λ i below. sym (same_bit a b i (told.2 i below))) in
      omega (arith, less, reversed_is a fits_a, reversed_is b fits_b)

-- so of two places the values decide
pub places_rise : (a b : ℕ) (x y : Bool) → reversed a < reversed b → split_place a x < split_place b y
places_rise a b true true less = omega (arith, less)
places_rise a b true false less = omega (arith, less)
places_rise a b false true less = omega (arith, less)
places_rise a b false false less = omega (arith, less)
