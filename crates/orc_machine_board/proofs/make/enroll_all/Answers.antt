use Rattle.std.proofs.Common.{[], ap, arith, suc, sym, ◌+◌, ◌∙◌, ◌≡◌}
use Rattle.orc_core.specs.Machine.{Machine, step}
use Rattle.orc_core.specs.declared.ops.Op.TheVariants.{Enroll}
use Rattle.orc_machine_board.proofs.Opening.{enrolling_goes}
use Rattle.orc_machine_board.specs.Laws.Steps.{run_next}
use Rattle.orc_machine_board.specs.Rules.{does, enrolments, run_of}
use Rattle.orc_words.specs.Bounds.{bounds_of}
use Rattle.std.specs.Prelude.{None}
use Rattle.orc_machine_board.proofs.make.enroll_all.Goals as goal

pub play_one-requires : goal.play_one-requires
play_one-requires c = let b = bounds_of c.args.shape.now in record {
  goes =
      (b, [], enrolling_goes c.args.shape.now c.loop-agent.state c.loop-agent.agent (omega arith) c.loop-agent.invariant);
}

pub loop-agent-preserved : goal.loop-agent-preserved
loop-agent-preserved c =
    let b = bounds_of c.args.shape.now in
    let next : suc c.loop-agent.agent ≡ c.loop-agent.agent + 1 = omega arith in
    c.play_one.ensures ∙
    (ap (λ (m : Machine). step m c.loop-agent.agent Enroll) c.loop-agent.invariant
    ∙ (sym (run_next b (enrolments {N = Unit {0}} c.loop-agent.agent) (does c.loop-agent.agent Enroll None))
    ∙ ap (λ n. run_of b (enrolments {N = Unit {0}} n)) next))
