-- Numbers with their bits reversed: those of a number's lowest bits come first, and no two are alike.
use Rattle.std.proofs.Common.{ap, arith, inl, inr, subst, suc, sym, zero, ℕ, ◌%◌, ◌*◌, ◌+◌, ◌/◌, ◌<◌, ◌^◌, ◌∙◌, ◌≡◌, ◌≢◌, ◌≤◌, ◌⊎◌}
use Rattle.std.proofs.lemmas.Bool.{cases_eq}
use Rattle.std.proofs.Math.Nat.{add-mod_right, mod-eq_of_lt}
use Rattle.std.proofs.lemmas.Nat.{mod-pow-add, pow_pos}
use Rattle.std.specs.Int.{reverse_bits_onto}
use native.Mathlib.Nat.{mod-le, mul-le-mul, mul_assoc, mul_comm, pow-suc}
use Rattle.orc_split_rule.specs.SplitOrder.{IsAncestor, IsParent, reversed}

-- the lowest i bits alone come no later
pub reversed_low : (k i n a b : ℕ) → a ≤ b → reverse_bits_onto k (n % 2 ^ i) a ≤ reverse_bits_onto k n b
unfolding reverse_bits_onto
reversed_low zero i n a b less = less
reversed_low (suc k) zero n a b less =
    let half : n % 1 / 2 ≡ n / 2 % 1 = omega arith in
    subst (λ (x : ℕ). reverse_bits_onto k x (a * 2 + n % 1 % 2) ≤ reverse_bits_onto k (n / 2) (b * 2 + n % 2)) (sym half)
    (reversed_low k zero (n / 2) (a * 2 + n % 1 % 2) (b * 2 + n % 2) (omega (arith, less)))
reversed_low (suc k) (suc i) n a b less =
    let e : i + 1 ≡ suc i = omega arith in
    let whole : n % 2 ^ suc i ≡ (n / 2 % 2 ^ i) * 2 + n % 2 = subst (λ (x : ℕ). n % 2 ^ x ≡ (n / 2 % 2 ^ i) * 2 + n % 2) e (mod-pow-add n i 1) in
    let half : n % 2 ^ suc i / 2 ≡ n / 2 % 2 ^ i = omega (arith, whole) in
    let last : n % 2 ^ suc i % 2 ≡ n % 2 = omega (arith, whole) in
    subst (λ (x : ℕ). reverse_bits_onto k x (a * 2 + n % 2 ^ suc i % 2) ≤ reverse_bits_onto k (n / 2) (b * 2 + n % 2)) (sym half)
    (reversed_low k i (n / 2) (a * 2 + n % 2 ^ suc i % 2) (b * 2 + n % 2) (omega (arith, less, last)))

-- no two numbers with other lowest k bits are alike
reversed_one : (k n m a b : ℕ) → reverse_bits_onto k n a ≡ reverse_bits_onto k m b → (a ≡ b) × (n % 2 ^ k ≡ m % 2 ^ k)
unfolding reverse_bits_onto
reversed_one zero n m a b same = (same, omega arith)
reversed_one (suc k) n m a b same =
    let (ends, halves) = reversed_one k (n / 2) (m / 2) (a * 2 + n % 2) (b * 2 + m % 2) same in
    let e : k + 1 ≡ suc k = omega arith in
    let one : n % 2 ^ suc k ≡ (n / 2 % 2 ^ k) * 2 + n % 2 = subst (λ (x : ℕ). n % 2 ^ x ≡ (n / 2 % 2 ^ k) * 2 + n % 2) e (mod-pow-add n k 1) in
    let two : m % 2 ^ suc k ≡ (m / 2 % 2 ^ k) * 2 + m % 2 = subst (λ (x : ℕ). m % 2 ^ x ≡ (m / 2 % 2 ^ k) * 2 + m % 2) e (mod-pow-add m k 1) in
    (omega (arith, ends), omega (arith, ends, halves, one, two))

reversed_below : (k n a : ℕ) → reverse_bits_onto k n a < (a + 1) * 2 ^ k
unfolding reverse_bits_onto
reversed_below zero n a = omega arith
reversed_below (suc k) n a =
    let h = reversed_below k (n / 2) (a * 2 + n % 2) in
    let less : (a * 2 + n % 2 + 1) * 2 ^ k ≤ (a + 1) * 2 * 2 ^ k = mul-le-mul (omega arith) (omega arith) in
    let same : (a + 1) * 2 * 2 ^ k ≡ (a + 1) * (2 ^ k * 2) = mul_assoc (a + 1) 2 (2 ^ k) ∙ ap (λ (x : ℕ). (a + 1) * x) (mul_comm 2 (2 ^ k)) in
    subst (λ (x : ℕ). reverse_bits_onto k (n / 2) (a * 2 + n % 2) < (a + 1) * x) (sym (pow-suc 2 k)) (omega (arith, h, less, same))

-- a number of lowest bits alone comes no later
pub low_first : (n i : ℕ) → reversed (n % 2 ^ i) ≤ reversed n
unfolding reversed
low_first n i =
    let less : n % 2 ^ i ≤ n = mod-le n (2 ^ i) in
    omega (arith, reversed_low 64 i n 0 0 (omega arith), less)

-- no two numbers are alike
pub reversed_same : (n m : ℕ) → reversed n ≡ reversed m → n ≡ m
unfolding reversed
reversed_same n m same =
    let a = reversed_below 64 n 0 in
    let b = reversed_below 64 m 0 in
    let c = reversed_one 64 n m 0 0 (omega (arith, same, a, b)) in
    omega (arith, same, a, b, c.1)

-- strictly before, where they are not the number itself
pub low_before : (n i : ℕ) → n % 2 ^ i ≢ n → reversed (n % 2 ^ i) < reversed n
low_before n i ne = cases (cases_eq (reversed (n % 2 ^ i)) (reversed n))
  where
    cases : (reversed (n % 2 ^ i) ≡ reversed n) ⊎ (reversed (n % 2 ^ i) ≢ reversed n) → reversed (n % 2 ^ i) < reversed n
    cases (inl same) = absurd (ne (reversed_same (n % 2 ^ i) n same))
    cases (inr apart) = omega (arith, apart, low_first n i)

-- a parent has the lowest bits of its bucket
parent_low : (parent bucket : ℕ) → (p : IsParent parent bucket) → bucket % 2 ^ p.bit ≡ parent
parent_low parent bucket p =
    let low : parent < 2 ^ p.bit = omega (arith, p.high, p.parent_is) in
    ap (λ (x : ℕ). x % 2 ^ p.bit) (sym p.parent_is) ∙ (add-mod_right parent (2 ^ p.bit) ∙ mod-eq_of_lt low)

-- so it comes before the bucket
parent_before : (parent bucket : ℕ) → IsParent parent bucket → reversed parent < reversed bucket
parent_before parent bucket p =
    let is = parent_low parent bucket p in
    let some = pow_pos p.bit in
    subst (λ (x : ℕ). reversed x < reversed bucket) is (low_before bucket p.bit (λ same. omega (arith, is, same, some, p.parent_is)))

-- and each ancestor comes no later
pub ancestor_first : (back old bucket : ℕ) → IsAncestor back old bucket → reversed old ≤ reversed bucket
ancestor_first zero old bucket same = subst (λ (x : ℕ). reversed old ≤ reversed x) same (omega arith)
ancestor_first (suc back) old bucket (parent, p, a) = omega (arith, ancestor_first back old parent a, parent_before parent bucket p)

-- strictly before, but for the bucket itself
pub ancestor_before : (back old bucket : ℕ) → IsAncestor (suc back) old bucket → reversed old < reversed bucket
ancestor_before back old bucket (parent, p, a) = omega (arith, ancestor_first back old parent a, parent_before parent bucket p)
