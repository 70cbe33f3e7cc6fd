use Rattle.std.proofs.Common.{◌≡◌}
use Rattle.std.specs.Prelude.{not, ◌||◌, ◌==◌}
use Rattle.orc_core.specs.Machine.{record_at}
use Rattle.orc_sound.specs.Doomed.{dooms}
use Rattle.orc_sound.proofs.Passed.{passed}
use Rattle.orc_sound.proofs.agent_tests.is_alone_doomed.Given as goal

abbrev pub invariant-loop-other : goal.invariant-loop-other
invariant-loop-other l = l.alone ≡ passed l.other (λ x. (x == l.agent) || not (dooms (record_at l.state x).doom l.row))
