use Rattle.std.proofs.Common.{◌≡◌}
use Rattle.orc_core.specs.Machine.{record_at}
use Rattle.orc_sound.proofs.Found.{found_below}
use Rattle.orc_sound.specs.Linked.{changes}
use Rattle.orc_sound.proofs.row_tests.is_changing.Given as goal

abbrev pub invariant-loop-agent : goal.invariant-loop-agent
invariant-loop-agent l = l.found ≡ found_below l.agent (λ a. changes (record_at l.state a) l.row)
