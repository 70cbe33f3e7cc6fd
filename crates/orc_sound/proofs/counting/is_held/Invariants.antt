use Rattle.std.proofs.Common.{◌≡◌}
use Rattle.orc_sound.specs.Linked.{holds_row}
use Rattle.orc_sound.proofs.Found.{found_below}
use Rattle.orc_sound.proofs.counting.is_held.Given as goal

abbrev pub invariant-loop-agent : goal.invariant-loop-agent
invariant-loop-agent l = l.found ≡ found_below l.agent (λ a. holds_row l.state a l.row)
