use Rattle.std.proofs.Common.{drop, ◌≡◌}
use Rattle.orc_core.specs.Runs.{run}
use Rattle.orc_machine_board.specs.Plays.{by_agent}
use Rattle.domain_tests.proofs.tests.job.play.Given as goal

-- the steps that are left lead to where all lead
abbrev pub invariant-loop-op : goal.invariant-loop-op
invariant-loop-op l = run l.state (by_agent 0 (drop l.op-index l.ops)) ≡ run l.fn.state (by_agent 0 l.ops)
