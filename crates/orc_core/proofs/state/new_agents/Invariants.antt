use Rattle.std.proofs.Common.{◌≡◌}
use Rattle.std.specs.Prelude.{replicate}
use Rattle.orc_core.specs.Machine.{nobody}
use Rattle.orc_core.proofs.state.new_agents.Given as goal

abbrev pub invariant-loop-number : goal.invariant-loop-number
invariant-loop-number l = l.agents.items ≡ replicate l._number (nobody l.shape.rows)
