-- Each is a power of two.
use Rattle.std.proofs.Common.{arith, refl}
use Rattle.stress.proofs.driven.greatest_of.Goals as goal

pub returns-in-4-to-7 : goal.returns-in-4-to-7
returns-in-4-to-7 c = (omega arith, 2, refl)

pub returns-in-8-to-15 : goal.returns-in-8-to-15
returns-in-8-to-15 c = (omega arith, 3, refl)

pub returns-in-16-to-31 : goal.returns-in-16-to-31
returns-in-16-to-31 c = (omega arith, 4, refl)

pub returns-in-32-to-63 : goal.returns-in-32-to-63
returns-in-32-to-63 c = (omega arith, 5, refl)

pub returns-in-64-to-127 : goal.returns-in-64-to-127
returns-in-64-to-127 c = (omega arith, 6, refl)

pub returns-in-128-to-255 : goal.returns-in-128-to-255
returns-in-128-to-255 c = (omega arith, 7, refl)

pub returns-in_default : goal.returns-in_default
returns-in_default c = (omega arith, 8, refl)
