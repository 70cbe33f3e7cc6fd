use Rattle.std.proofs.Common.{◌≡◌}
use Rattle.orc_core.specs.Machine.{record_at}
use Rattle.orc_sound.proofs.Found.{found_below}
use Rattle.orc_sound.specs.Doomed.{dooms}
use Rattle.orc_sound.proofs.row_tests.is_doomed.Given as goal

abbrev pub invariant-loop-agent : goal.invariant-loop-agent
invariant-loop-agent l = l.found ≡ found_below l.agent (λ a. dooms (record_at l.state a).doom l.row)
