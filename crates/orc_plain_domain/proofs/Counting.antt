-- How many rows were given.
use Rattle.std.proofs.Common.{◌≡◌, ◌≢◌, ℕ, zero, suc, ◌+◌, ◌-◌, ◌<◌, ◌≤◌, ◌%◌, ◌==◌, List, [], ◌∷◌, length, Some, slice_get, refl, sym, ap, ◌∙◌, subst, arith, eq-eqb, ne_eqb}
use Rattle.std.proofs.Math.Decide.{dec_lt}
use Rattle.std.proofs.Math.Nat.{add-mod_right, mod-eq_of_lt}
use Rattle.std.proofs.Math.Seq.{take-length}
use Rattle.std.specs.Prelude.{if◌then◌else◌, slice_index}
use mathlib.Core.Logic.{dite}
use native.Mathlib.Decide.{ℕ_discrete}
use Rattle.orc_heap.specs.declared.events.Event.{Event}
use Rattle.orc_any_domain.proofs.Counting.{listed_all, no_more}
use Rattle.orc_any_domain.proofs.Rows.{some_one}
use Rattle.orc_any_domain.specs.Rows.{IsListed, Once}
use Rattle.orc_heap.specs.Moves.{gives_in}
use Rattle.orc_plain_domain.specs.Given.{IsLacking}

index_there : (xs : List ℕ) (i : ℕ) → i < length xs → slice_get xs i ≡ Some (slice_index xs i)
index_there [] i l = absurd (omega (arith, l))
index_there (x ∷ xs) zero l = refl
index_there (x ∷ xs) (suc i) l = index_there xs i (omega (arith, l))

-- rows that are given once each are no more than there are
pub rows_at_most : (rows : List ℕ) (most : ℕ) → Once rows → ((i row : ℕ) → slice_get rows i ≡ Some row → row < most) → length rows ≤ most
rows_at_most rows most once inside = no_more (length rows) most (slice_index rows) (record {
  low = λ i l. inside i (slice_index rows i) (index_there rows i l);
  apart = λ i j l m e. once i j (slice_index rows i) (index_there rows i l) (index_there rows j m ∙ ap Some (sym e));
})

-- where each row is out, all were given
pub rows_all : (rows : List ℕ) (most : ℕ) → Once rows → ((i row : ℕ) → slice_get rows i ≡ Some row → row < most)
    → ((row : ℕ) → row < most → IsListed rows row) → length rows ≡ most
rows_all rows most once inside all =
    let low = rows_at_most rows most once inside in
    let high = listed_all rows most all in
    omega (arith, low, high)

-- once round from any row, each row comes
pub once_round : (rows : List ℕ) (begin most : ℕ) → begin < most → ((k : ℕ) → k < most → IsListed rows ((begin + k) % most)) → (row : ℕ) → row < most
    → IsListed rows row
once_round rows begin most l out row m = dite (dec_lt row begin)
    (λ lt.
    let e : begin + (row + most - begin) ≡ row + most = omega (arith, l, lt) in
    subst (IsListed rows) (ap (λ z. z % most) e ∙ (add-mod_right row most ∙ mod-eq_of_lt m)) (out (row + most - begin) (omega (arith, l, lt))))
    (λ ge.
    let e : begin + (row - begin) ≡ row = omega (arith, ge) in
    subst (IsListed rows) (ap (λ z. z % most) e ∙ mod-eq_of_lt m) (out (row - begin) (omega (arith, m))))

-- 1 for a row that is out
abbrev pub out_bit : ℕ → List ℕ → ℕ
out_bit row [] = 0
out_bit row (x ∷ xs) = if x == row then 1 else out_bit row xs

-- how many of the first rows are out
abbrev pub outs : List ℕ → ℕ → ℕ
outs rows zero = 0
outs rows (suc n) = outs rows n + out_bit n rows

bit_here : (row x : ℕ) (xs : List ℕ) → x ≡ row → out_bit row (x ∷ xs) ≡ 1
bit_here row x xs e = ap (λ b. if b then 1 else out_bit row xs) (eq-eqb x row e)

bit_later : (row x : ℕ) (xs : List ℕ) → x ≢ row → out_bit row (x ∷ xs) ≡ out_bit row xs
bit_later row x xs ne = ap (λ b. if b then 1 else out_bit row xs) (ne_eqb x row ne)

pub bit_out : (row : ℕ) (rows : List ℕ) → IsListed rows row → out_bit row rows ≡ 1
bit_out row [] o = let e = o.1 in cc
bit_out row (x ∷ xs) (zero, e) = bit_here row x xs (some_one x row e)
bit_out row (x ∷ xs) (suc i, e) = dite (ℕ_discrete x row) (λ same. bit_here row x xs same) (λ ne. bit_later row x xs ne ∙ bit_out row xs (i, e))

pub bit_free : (row : ℕ) (rows : List ℕ) → ¬ IsListed rows row → out_bit row rows ≡ 0
bit_free row [] o = refl
bit_free row (x ∷ xs) o = dite (ℕ_discrete x row) (λ same. absurd (o (0, ap Some same))) (λ ne. bit_later row x xs ne ∙ bit_free row xs (λ q. o (suc q.0, q.1)))

outs_none : (n : ℕ) → outs [] n ≡ 0
outs_none zero = refl
outs_none (suc n) = let e = outs_none n in omega (arith, e)

-- a row that isn't among the first
outs_above : (x n : ℕ) (xs : List ℕ) → n ≤ x → outs (x ∷ xs) n ≡ outs xs n
outs_above x zero xs l = refl
outs_above x (suc n) xs l =
    let a = outs_above x n xs (omega (arith, l)) in
    let b = bit_later n x xs (λ e. omega (arith, l, e)) in
    omega (arith, a, b)

-- one that is
outs_with : (x n : ℕ) (xs : List ℕ) → ¬ IsListed xs x → x < n → outs (x ∷ xs) n ≡ outs xs n + 1
outs_with x zero xs new l = absurd (omega (arith, l))
outs_with x (suc n) xs new l = dite (ℕ_discrete x n)
    (λ e.
    let a = outs_above x n xs (omega (arith, e)) in
    let b = bit_here n x xs e in
    let z : out_bit n xs ≡ 0 = subst (λ r. out_bit r xs ≡ 0) e (bit_free x xs new) in
    omega (arith, a, b, z))
    (λ ne.
    let a = outs_with x n xs new (omega (arith, l, ne)) in
    let b = bit_later n x xs ne in
    omega (arith, a, b))

-- all rows that were given are out
pub outs_all : (rows : List ℕ) (most : ℕ) → Once rows → ((i row : ℕ) → slice_get rows i ≡ Some row → row < most) → outs rows most ≡ length rows
outs_all [] most once inside = outs_none most
outs_all (x ∷ xs) most once inside =
    let rest = outs_all xs most (λ i j row e q. let s = once (suc i) (suc j) row e q in omega (arith, s)) (λ i row e. inside (suc i) row e) in
    let all = outs_with x most xs (λ o. let s = once 0 (suc o.0) x refl o.1 in omega (arith, s)) (inside 0 x refl) in
    omega (arith, rest, all)

pub outs_low : (rows : List ℕ) (n : ℕ) → outs rows n ≤ n
outs_low rows zero = omega arith
outs_low rows (suc n) = let a = outs_low rows n in let b = bit_low n rows in omega (arith, a, b)
  where
    bit_low : (row : ℕ) (rows : List ℕ) → out_bit row rows ≤ 1
    bit_low row [] = omega arith
    bit_low row (x ∷ xs) =
        dite (ℕ_discrete x row) (λ same. let e = bit_here row x xs same in omega (arith, e)) (λ ne. let e = bit_later row x xs ne in
        let l = bit_low row xs in omega (arith, e, l))

pub lacks_all : {N : Type 0} (rows : ℕ) (j : List (Event N)) → gives_in j ≡ rows → IsLacking rows j (length j)
lacks_all rows j e = record { within = omega arith; given = ap gives_in (take-length j) ∙ e }
