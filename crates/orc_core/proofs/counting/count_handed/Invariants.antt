use Rattle.std.proofs.Common.{◌≡◌, ◌≤◌, ◌*◌}
use Rattle.orc_core.specs.Counts.{handovers}
use Rattle.orc_core.proofs.Counted.{summed}
use Rattle.orc_core.proofs.counting.count_handed.Given as goal

abbrev pub invariant-loop-agent : goal.invariant-loop-agent
invariant-loop-agent l = record { so_far : l.count ≡ summed l.agent (handovers l.state); small : l.count ≤ 8 * l.agent }
