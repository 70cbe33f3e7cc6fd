use Rattle.std.proofs.Common.{List, drop, refl, sym, ap, ◌+◌, ◌∙◌}
use Rattle.orc_core.specs.Machine.{Machine}
use Rattle.orc_core.specs.Runs.{run}
use Rattle.orc_core.specs.declared.ops.Op.{Op}
use Rattle.orc_core.specs.declared.ops.Op.TheVariants.{Enroll}
use Rattle.orc_machine_board.proofs.Playing.{drop_next, drop_none}
use Rattle.orc_machine_board.specs.Plays.{by_agent}
use Rattle.domain_tests.proofs.tests.job.play.Goals as goal

pub loop-op-init : goal.loop-op-init
loop-op-init c = refl

pub loop-op-preserved : goal.loop-op-preserved
loop-op-preserved c =
    let rest = drop (c.loop-op.op-index + 1) c.args.ops.now in
    let next = drop_next c.args.ops.now c.loop-op.op-index Enroll c.loop-op-test.true in
    ap (λ (m : Machine). run m (by_agent 0 rest)) c.follow.ensures
    ∙ (sym (ap (λ (l : List Op). run c.loop-op.state (by_agent 0 l)) next) ∙ c.loop-op.invariant)

pub returns : goal.returns
returns c = λ e. sym (ap (λ (l : List Op). run c.loop-op.state (by_agent 0 l)) (drop_none c.args.ops.now c.loop-op.op-index c.loop-op-test.false))
    ∙ c.loop-op.invariant
