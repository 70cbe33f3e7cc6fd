use Rattle.std.proofs.Common.{◌≡◌}
use Rattle.std.specs.Prelude.{not, ◌||◌, ◌==◌}
use Rattle.orc_core.specs.Machine.{record_at}
use Rattle.orc_sound.specs.Linked.{uses}
use Rattle.orc_sound.proofs.Passed.{passed}
use Rattle.orc_sound.proofs.agent_tests.is_used_alone.Given as goal

abbrev pub invariant-loop-other : goal.invariant-loop-other
invariant-loop-other l = l.alone ≡ passed l.other (λ x. (x == l.agent) || not (uses (record_at l.state x) l.row))
