use Rattle.std.proofs.Common.{List, drop, refl, subst, sym, ap, ◌+◌, ◌∙◌}
use Rattle.std.specs.Prelude.{slice_index_or}
use Rattle.orc_core.specs.Machine.{Machine}
use Rattle.orc_core.specs.Runs.{run}
use Rattle.orc_core.specs.declared.ops.Op.{Op}
use Rattle.orc_core.specs.declared.ops.Op.TheVariants.{Enroll}
use Rattle.orc_machine_board.proofs.Playing.{drop_next, drop_none, goes_on}
use Rattle.orc_machine_board.specs.Plays.{PlaysOn, by_agent}
use Rattle.orc_machine_board.proofs.make.play.Goals as goal

pub loop-op-init : goal.loop-op-init
loop-op-init c = (c.requires.goes, refl)

pub play_one-requires : goal.play_one-requires
play_one-requires c =
    let i = c.loop-op.invariant in
    let next = drop_next c.args.ops.now c.loop-op.op-index Enroll c.loop-op-test.true in
    record {
      goes = (
        i.0.0,
        by_agent c.args.agent (drop (c.loop-op.op-index + 1) c.args.ops.now),
        subst
            (λ (l : List Op). PlaysOn i.0.0 c.loop-op.state (by_agent c.args.agent l)) next i.0.1,
      );
    }

pub loop-op-preserved : goal.loop-op-preserved
loop-op-preserved c =
    let i = c.loop-op.invariant in
    let op = slice_index_or c.args.ops.now c.loop-op.op-index Enroll in
    let rest = drop (c.loop-op.op-index + 1) c.args.ops.now in
    let next = drop_next c.args.ops.now c.loop-op.op-index Enroll c.loop-op-test.true in
    let goes = subst (λ (l : List Op). PlaysOn i.0.0 c.loop-op.state (by_agent c.args.agent l)) next i.0.1 in
    let made = goes_on i.0.0 c.loop-op.state c.args.agent op (by_agent c.args.agent rest) goes in (
      (i.0.0, subst (λ (m : Machine). PlaysOn i.0.0 m (by_agent c.args.agent rest)) (sym c.play_one.ensures) made),
      ap (λ (m : Machine). run m (by_agent c.args.agent rest)) c.play_one.ensures
          ∙ (sym (ap (λ (l : List Op). run c.loop-op.state (by_agent c.args.agent l)) next) ∙ i.1),
    )

pub returns : goal.returns
returns c = let i = c.loop-op.invariant in sym
    (ap (λ (l : List Op). run c.loop-op.state (by_agent c.args.agent l)) (drop_none c.args.ops.now c.loop-op.op-index c.loop-op-test.false)) ∙ i.1
