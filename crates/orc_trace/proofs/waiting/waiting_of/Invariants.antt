use Rattle.std.proofs.Common.{◌≡◌, ◌≤◌, ◌*◌}
use Rattle.orc_core.proofs.Counted.{summed}
use Rattle.orc_trace.specs.Watched.{waiting_at}
use Rattle.orc_trace.proofs.waiting.waiting_of.Given as goal

abbrev pub invariant-loop-agent : goal.invariant-loop-agent
invariant-loop-agent l = record { so_far : l.count ≡ summed l.agent (waiting_at l.state); small : l.count ≤ 11 * l.agent }
