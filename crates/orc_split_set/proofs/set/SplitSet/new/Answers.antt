-- A power of two is at least 1.
use Rattle.orc_split_set.proofs.Preparing.{size_some}
use Rattle.orc_split_set.proofs.set.SplitSet.new.Goals as goal

pub invariant_of-result : goal.invariant_of-result
invariant_of-result g c = record { rooted = (size_some 256 c.args.greatest c.requires.size, c.requires.roots); sized = ∣ c.requires.size ∣₁ }
