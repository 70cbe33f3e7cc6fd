-- The fields of two records that are one.
use Rattle.std.proofs.Common.{◌≡◌, ◌∙◌, ◌==◌, ◌<◌, ◌^◌, true, false, List, [], ℕ, arith, ap, sym, eq-eqb, get_or, IsUtf8}
use Rattle.std.proofs.lemmas.Fmt.{IsAscii-decimal}
use Rattle.std.proofs.lemmas.Str.{IsUtf8-from_ascii}
use Rattle.std.specs.Fmt.{decimal}

-- records that are one have one first field
pub first-field : {a b : List (List ℕ)} → a ≡ b → get_or a 0 [] ≡ get_or b 0 []
first-field e = ap (λ r. get_or r 0 []) e

-- texts whose first bytes are two are two
pub two-texts : {a b : List ℕ} → a ≡ b → (get_or a 0 0 == get_or b 0 0) ≡ false → ⊥
two-texts {a} {b} e other = let bad : true ≡ false = sym (eq-eqb (get_or a 0 0) (get_or b 0 0) (ap (λ t. get_or t 0 0) e)) ∙ other in cc bad

-- what is printed of a number is text
pub IsUtf8-decimal : (n : ℕ) → n < 2 ^ 32 → IsUtf8 (decimal n)
IsUtf8-decimal n small = IsUtf8-from_ascii (decimal n) (IsAscii-decimal n (omega arith))
