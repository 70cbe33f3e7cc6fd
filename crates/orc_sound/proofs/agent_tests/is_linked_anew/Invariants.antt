use Rattle.std.proofs.Common.{◌≡◌}
use Rattle.std.specs.Prelude.{◌&&◌}
use Rattle.orc_core.specs.Machine.{record_at}
use Rattle.orc_core.specs.RecordParts.{names}
use Rattle.orc_sound.specs.QuietScan.{holds_from}
use Rattle.orc_sound.proofs.Found.{found_below}
use Rattle.orc_sound.proofs.agent_tests.is_linked_anew.Given as goal

abbrev pub invariant-loop-agent : goal.invariant-loop-agent
invariant-loop-agent l = l.found ≡ found_below l.agent (λ a. names (record_at l.state a).inc l.row && holds_from l.state l.row l.k a)
