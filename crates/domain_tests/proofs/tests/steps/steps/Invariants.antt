use Rattle.std.proofs.Common.{drop, ◌++◌, ◌≡◌}
use Rattle.domain_tests.specs.JobRun.{IsPlayed, own_steps}
use Rattle.orc_machine_board.specs.Views.{shows}
use Rattle.domain_tests.proofs.tests.steps.steps.Given as goal

-- the steps that are left lead to where all lead
abbrev pub invariant-loop-op : goal.invariant-loop-op
invariant-loop-op g l = IsPlayed l.board l.p l.state × ((shows l.p).journal ++ own_steps (drop l.op-index l.ops) ≡ (shows l.fn.p).journal ++ own_steps l.ops)
