-- The lowest bit in which they differ.
use Rattle.std.proofs.lemmas.Bool.{eqb-false, eqb-true}
use Rattle.std.specs.Int.{bit_at, trailing_zeros, w64}
use Rattle.std.proofs.Common.{bit_xor}
use Rattle.orc_split_set.proofs.Reversing.{differ_after, differ_before, differ_low}
use Rattle.orc_split_set.proofs.order.is_lower.Goals as goal

pub overflow_shr-result : goal.overflow_shr-result
overflow_shr-result c = differ_low c.args.number c.args.other c.requires c.ranges.number.fits c.ranges.other.fits

pub returns-clause-yes : goal.returns-clause-yes
returns-clause-yes c = λ is.
    differ_before c.args.number c.args.other c.requires c.ranges.number.fits c.ranges.other.fits
    (eqb-true (bit_at c.args.number (trailing_zeros w64 (bit_xor c.args.number c.args.other))) 0 is)

pub returns-clause-no : goal.returns-clause-no
returns-clause-no c = λ is.
    differ_after c.args.number c.args.other c.requires c.ranges.number.fits c.ranges.other.fits
    (eqb-false (bit_at c.args.number (trailing_zeros w64 (bit_xor c.args.number c.args.other))) 0 is)
