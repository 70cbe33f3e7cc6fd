use Rattle.std.proofs.Common.{◌≡◌}
use Rattle.orc_words.specs.Bounds.{bounds_of}
use Rattle.orc_machine_board.specs.Rules.{enrolments, run_of}
use Rattle.orc_machine_board.proofs.make.enroll_all.Given as goal

abbrev pub invariant-loop-agent : goal.invariant-loop-agent
invariant-loop-agent l = l.state ≡ run_of (bounds_of l.fn.shape) (enrolments {N = Unit {0}} l.agent)
