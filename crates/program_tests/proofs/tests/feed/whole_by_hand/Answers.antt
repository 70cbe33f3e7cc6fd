use Rattle.std.proofs.Common.{◌∷◌, [], arith, ap, length, length-append, refl}
use Rattle.program_tests.proofs.tests.feed.whole_by_hand.Goals as goal

pub returns-clause-front : goal.returns-clause-front
returns-clause-front c = (7 ∷ [], refl, omega arith)

pub returns-clause-too_many : goal.returns-clause-too_many
returns-clause-too_many c (front, same, few) =
    let sizes = ap length same in
    omega (arith, few, sizes, length-append front [])

pub returns-clause-grown : goal.returns-clause-grown
returns-clause-grown c (front, same, few) =
    let sizes = ap length same in
    omega (arith, sizes, length-append front (7 ∷ 8 ∷ []))
