use Rattle.std.proofs.Common.{drop, ◌≡◌}
use Rattle.orc_core.specs.Runs.{run}
use Rattle.orc_words.specs.Bounds.{Bounds}
use Rattle.orc_machine_board.specs.Plays.{PlaysOn, by_agent}
use Rattle.orc_machine_board.proofs.make.play.Given as goal

-- the steps that are left go on, and lead to where all lead
abbrev pub invariant-loop-op : goal.invariant-loop-op
invariant-loop-op l = ((b : Bounds) × PlaysOn b l.state (by_agent l.agent (drop l.op-index l.ops))) ×
    (run l.state (by_agent l.agent (drop l.op-index l.ops)) ≡ run l.fn.state (by_agent l.agent l.ops))
