-- Half as many, and half of those, until there are no more than the bucket's number.
use Rattle.std.proofs.Common.{arith}
use Rattle.orc_split_set.proofs.Beginning.{half_size}
use Rattle.orc_split_set.proofs.bucket.size_within.Goals as goal

pub loop-size-init : goal.loop-size-init
loop-size-init c = record { size = λ all is. is; within = omega arith }

pub loop-size-smaller : goal.loop-size-smaller
loop-size-smaller c = omega (arith, c.loop-size-test.true, c.requires.bucket)

pub loop-size-preserved : goal.loop-size-preserved
loop-size-preserved c =
    let more = c.loop-size-test.true in
    record {
      size = λ all is.
          (let now = c.loop-size.invariant.size all is in half_size all c.loop-size.size now.1 (omega (arith, more, c.requires.bucket)) now.2 now.0);
      within = omega (arith, c.loop-size.invariant.within);
    }
