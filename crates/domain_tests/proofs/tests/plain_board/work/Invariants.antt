use Rattle.std.proofs.Common.{◌≡◌, ◌≤◌, None}
use Rattle.orc_plain_board.specs.Views.{Belongs, shows}
use Rattle.domain_tests.proofs.tests.plain_board.work.Given as goal

abbrev pub invariant-loop-row : goal.invariant-loop-row
invariant-loop-row l = Belongs l.board l.p × ((shows l.board l.p).fresh ≡ None) × (l.taken ≤ l.row)
