use Rattle.std.proofs.Common.{◌≡◌, ◌≤◌, ◌*◌}
use Rattle.orc_core.specs.Machine.{record_at}
use Rattle.orc_core.proofs.Counted.{summed}
use Rattle.orc_sound.specs.RetirementToken.{places_of}
use Rattle.orc_sound.proofs.counting.tokens_in_records.Given as goal

abbrev pub invariant-loop-agent : goal.invariant-loop-agent
invariant-loop-agent l = record { so_far : l.count ≡ summed l.agent (λ a. places_of (record_at l.state a) l.row); small : l.count ≤ 65538 * l.agent }
