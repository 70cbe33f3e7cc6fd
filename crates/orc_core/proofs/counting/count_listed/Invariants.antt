use Rattle.std.proofs.Common.{◌≡◌, ◌≤◌, ◌*◌, length}
use Rattle.orc_core.specs.Machine.{record_at}
use Rattle.orc_core.proofs.Counted.{summed}
use Rattle.orc_core.proofs.counting.count_listed.Given as goal

abbrev pub invariant-loop-agent : goal.invariant-loop-agent
invariant-loop-agent l = record { so_far : l.count ≡ summed l.agent (λ a. length (record_at l.state a).list.items); small : l.count ≤ 65535 * l.agent }
