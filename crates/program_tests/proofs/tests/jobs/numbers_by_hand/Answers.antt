use Rattle.std.proofs.Common.{◌≡◌, [], ◌∷◌, ap, arith, codes, length, refl}
use Rattle.std.specs.Fmt.{decimal, digits}
use Rattle.std.proofs.lemmas.List.Elements.{All-cons, All-nil}
use Rattle.orc_decimal.proofs.Numerals.{IsCanonical-decimal}
use Rattle.orc_jobs.proofs.NumberLists.{IsSmall}
use Rattle.orc_jobs.specs.Numbers.{SpellsNumbers}
use Rattle.program_tests.proofs.tests.jobs.numbers_by_hand.Goals as goal

one : decimal 1 ≡ codes "1"
unfolding digits
one = refl

twenty_two : decimal 22 ≡ codes "22"
unfolding digits
twenty_two = refl

one_and_twenty_two : SpellsNumbers (1 ∷ 22 ∷ []) (codes "1 22")
one_and_twenty_two = record {
  small = All-cons IsSmall 1 (22 ∷ []) (omega arith) (All-cons IsSmall 22 [] (omega arith) (All-nil IsSmall));
  spelling = rw (one, twenty_two) refl;
}

pub returns-clause-number : goal.returns-clause-number
returns-clause-number c = (22, omega arith, rw twenty_two refl)

pub returns-clause-zero_first : goal.returns-clause-zero_first
returns-clause-zero_first c (n, small, same) =
    let plain = rw (← same) at (IsCanonical-decimal n (omega (arith, small))) in
    let bad = plain.no_zero refl in
    omega (arith, bad)

pub returns-clause-two : goal.returns-clause-two
returns-clause-two c = one_and_twenty_two

pub returns-clause-twice : goal.returns-clause-twice
returns-clause-twice c h =
    let same = rw (one, twenty_two) at h.spelling in
    let sizes = ap length same in
    omega (arith, sizes)

pub returns-clause-sum : goal.returns-clause-sum
returns-clause-sum c = (1 ∷ 22 ∷ [], one_and_twenty_two, refl)
