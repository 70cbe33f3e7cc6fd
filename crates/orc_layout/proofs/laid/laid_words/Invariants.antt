use Rattle.std.proofs.Common.{◌≡◌}
use Rattle.orc_words.specs.Bounds.{bounds_of}
use Rattle.orc_layout.specs.Layout.{index, lay}
use Rattle.orc_layout.proofs.Laying.{begun}
use Rattle.orc_layout.proofs.laid.laid_words.Given as goal

-- the words before the place are laid
abbrev pub invariant-loop-place : goal.invariant-loop-place
invariant-loop-place l = l.laid.items ≡ lay (index (bounds_of l.fn.shape)) (begun l.fn.words l.place)
