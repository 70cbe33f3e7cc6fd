use Rattle.std.proofs.Common.{◌≡◌}
use Rattle.orc_sound.specs.Decisions.{row_fits}
use Rattle.orc_sound.proofs.Passed.{passed}
use Rattle.orc_sound.proofs.soundness.rows_fit.Given as goal

abbrev pub invariant-loop-row : goal.invariant-loop-row
invariant-loop-row l = l.fit ≡ passed l.row (row_fits l.state)
