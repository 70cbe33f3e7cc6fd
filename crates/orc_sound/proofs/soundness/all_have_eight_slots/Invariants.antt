use Rattle.std.proofs.Common.{◌≡◌, ℕ, ◌<◌, length}
use Rattle.orc_core.specs.Machine.{record_at}
use Rattle.orc_sound.proofs.soundness.all_have_eight_slots.Given as goal

abbrev pub invariant-loop-agent : goal.invariant-loop-agent
invariant-loop-agent l = (a : ℕ) → a < l.agent → length (record_at l.state a).slots ≡ 8
