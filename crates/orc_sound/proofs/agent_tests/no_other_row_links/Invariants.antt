use Rattle.std.proofs.Common.{◌≡◌}
use Rattle.std.specs.Prelude.{◌||◌, ◌==◌}
use Rattle.orc_sound.proofs.Passed.{passed}
use Rattle.orc_sound.specs.Decisions.{names_none}
use Rattle.orc_sound.proofs.agent_tests.no_other_row_links.Given as goal

abbrev pub invariant-loop-from : goal.invariant-loop-from
invariant-loop-from l = l.none ≡ passed l.from (λ j. (j == l.row) || names_none l.state l.row j)
