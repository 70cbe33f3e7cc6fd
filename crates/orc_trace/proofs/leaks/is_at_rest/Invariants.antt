use Rattle.std.proofs.Common.{◌≡◌}
use Rattle.orc_sound.proofs.Passed.{passed}
use Rattle.orc_trace.specs.Watched.{rests_at}
use Rattle.orc_trace.proofs.leaks.is_at_rest.Given as goal

abbrev pub invariant-loop-agent : goal.invariant-loop-agent
invariant-loop-agent l = l.rest ≡ passed l.agent (rests_at l.state)
