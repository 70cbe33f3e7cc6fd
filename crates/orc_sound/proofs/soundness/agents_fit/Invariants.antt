use Rattle.std.proofs.Common.{◌≡◌}
use Rattle.orc_sound.specs.Decisions.{agent_fits}
use Rattle.orc_sound.proofs.Passed.{passed}
use Rattle.orc_sound.proofs.soundness.agents_fit.Given as goal

abbrev pub invariant-loop-agent : goal.invariant-loop-agent
invariant-loop-agent l = l.fit ≡ passed l.agent (agent_fits l.state)
