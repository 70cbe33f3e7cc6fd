use Rattle.std.proofs.Common.{◌≡◌, ◌∙◌, arith, codes, refl}
use Rattle.std.specs.Fmt.{decimal, digits}
use Rattle.std.proofs.lemmas.Fmt.{decimal_injective}
use Rattle.orc_decimal.proofs.Numerals.{IsCanonical-decimal}
use Rattle.program_tests.proofs.tests.decimals.decimals_by_hand.Goals as goal

pub returns-clause-greatest : goal.returns-clause-greatest
unfolding digits
returns-clause-greatest c = (255, omega arith, refl)

pub returns-clause-zero : goal.returns-clause-zero
unfolding digits
returns-clause-zero c = (0, omega arith, refl)

above : decimal 256 ≡ codes "256"
unfolding digits
above = refl

pub returns-clause-too_large : goal.returns-clause-too_large
returns-clause-too_large c (n, small, same) =
    let number = decimal_injective 256 n (omega arith) (omega (arith, small)) (above ∙ same) in
    omega (arith, number, small)

pub returns-clause-zero_first : goal.returns-clause-zero_first
returns-clause-zero_first c (n, small, same) =
    let plain = rw (← same) at (IsCanonical-decimal n (omega (arith, small))) in
    let bad = plain.no_zero refl in
    omega (arith, bad)
