-- Canonical decimals, printed and parsed.
use Rattle.std.proofs.Common.{◌≡◌, ◌≢◌, ◌∙◌, ◌^◌, ◌<◌, ◌⊎◌, ◌==◌, List, ℕ, zero, suc, Result, Ok, Err, false, inl, inr, refl, arith, sym, length, get_or, All}
use Rattle.std.specs.Fmt.{decimal}
use Rattle.std.specs.Str.Parse.{ParsesUnsigned, digits_value, AllDigits}
use Rattle.std.proofs.lemmas.List.Elements.{All-from_get_or}
use Rattle.std.proofs.lemmas.Str.Parse.{IsNumeralModel, digit_at, numerals_by_value, tells_digits, parse_plain}
use Rattle.std.proofs.lemmas.Fmt.{decimal_nonempty, first_decimal, decimal_digit, digits_decimal, parse-decimal, decimal-digits_value}
use Rattle.std.proofs.lemmas.Bool.Decides.{nat_tests}
use Rattle.orc_decimal.specs.Canonical.{IsCanonical}

own : IsNumeralModel (AllDigits 10) (digits_value 10)
own = numerals_by_value (AllDigits 10) tells_digits

first_of_zero : get_or (decimal 0) 0 0 ≡ 48
first_of_zero = rw (decimal_digit 0 (omega arith)) refl

length_of_zero : length (decimal 0) ≡ 1
length_of_zero = rw (decimal_digit 0 (omega arith)) refl

zero_or_more : (n : ℕ) → (n ≡ 0) ⊎ (0 < n)
zero_or_more zero = inl refl
zero_or_more (suc n) = inr (omega arith)

pub IsCanonical-decimal : (n : ℕ) → n < 2 ^ 64 → IsCanonical (decimal n)
IsCanonical-decimal n h = elim (zero_or_more n) [
  | inl e ↦ rw e (record {
    some = decimal_nonempty 0 (omega arith);
    unsigned = λ q. absurd (let bad : 48 ≡ 43 = sym first_of_zero ∙ q in omega arith);
    no_zero = λ _. length_of_zero;
  })
  | inr more ↦
      let first = first_decimal n more h in
      record {
        some = decimal_nonempty n h;
        unsigned = λ q. absurd (omega (arith, first, q));
        no_zero = λ q. absurd (omega (arith, first, q));
      }
]

-- a plain text that parses is what printing its number gives
pub parsed : {E : Type 0} (text : List ℕ) (r : Result ℕ E) (n : ℕ) → IsCanonical text → ParsesUnsigned 64 10 text r → r ≡ Ok n
    → (n < 2 ^ 64) × (text ≡ decimal n)
parsed {E} text r n plain h e =
    let p = parse_plain own 64 text r h plain.unsigned in
    let q = rw e at p in
    let is = q.1 in
    let fits = q.0.2 in
    let small : digits_value 10 text < 2 ^ 64 = omega (arith, fits) in
    (omega (arith, is, fits), sym (rw q.1 (decimal-digits_value own text q.0.0 q.0.1 plain.no_zero small)))

-- a text that does not parse is no such print
pub unparsed : {E : Type 0} (text : List ℕ) (r : Result ℕ E) (why : E) → ParsesUnsigned 64 10 text r → r ≡ Err why → (n : ℕ) → n < 2 ^ 64 → text ≡ decimal n → ⊥
unparsed {E} text r why h e n small same =
    let p = parse-decimal 64 n text r small small same h in
    let bad : ◌≡◌ {A = Result ℕ E} (Err why) (Ok n) = sym e ∙ p in cc bad

-- a byte that is below the digits, or above them, stands in no decimal
pub decimal_no_byte : (byte n : ℕ) → (byte < 48) ⊎ (57 < byte) → n < 2 ^ 64 → All (λ b. (b == byte) ≡ false) (decimal n)
decimal_no_byte byte n outside small = All-from_get_or (λ b. (b == byte) ≡ false) (decimal n) 0 (λ i lt.
    let digits = digits_decimal own n small in
    let range = digit_at (decimal n) i digits lt in
    let other : get_or (decimal n) i 0 ≢ byte = λ e. elim outside [ inl low ↦ omega (arith, e, range, low) | inr high ↦ omega (arith, e, range, high) ] in
    grind (arith, nat_tests))
