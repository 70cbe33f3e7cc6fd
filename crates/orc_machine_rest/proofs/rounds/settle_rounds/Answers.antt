use Rattle.std.proofs.Common.{arith, refl, ◌≡◌}
use Rattle.orc_machine_rest.proofs.Joins.{goes_is, goes_none, goes_then, opens_goes, rounds_all, rounds_last, rounds_over, rounds_within}
use Rattle.orc_machine_rest.specs.OwnSteps.{steps_a_round}
use Rattle.orc_machine_board.specs.Views.{board_bounds, shows}
use Rattle.orc_machine_rest.proofs.rounds.settle_rounds.Goals as goal

pub loop-turn-init : goal.loop-turn-init
loop-turn-init g c = record {
  pass = c.requires.pass;
  goes = goes_none (board_bounds c.args.board.now) c.args.agent (shows c.args.p.now) c.requires.pass.reached;
  between = c.requires.between;
  few = omega arith;
}

pub loop-turn-preserved : goal.loop-turn-preserved
loop-turn-preserved g c =
    let b = board_bounds c.args.board.now in
    let a = c.args.agent in
    let i = c.loop-turn.invariant in
    let e = c.round.ensures in
    record {
      pass = e.pass;
      goes = goes_then b a c.loop-turn._turn 1 i.goes
          (opens_goes b a 1 (shows c.loop-turn.p) (shows c.round.new.p) i.pass.reached e.opens);
      between = e.between;
      few = rounds_last c.loop-turn._turn (steps_a_round b) _ _ _ i.few e.few;
    }

pub returns-in_default-clause-rounds : goal.returns-in_default-clause-rounds
returns-in_default-clause-rounds g c =
    rounds_over (board_bounds c.args.board.now) c.args.agent c.loop-turn._turn c.args.left (shows c.args.p.now) (shows c.loop-turn.p)
    c.loop-turn.invariant.goes (c.in_default.ensures.none refl)

pub returns-clause-rounds : goal.returns-clause-rounds
returns-clause-rounds g c =
    let b = board_bounds c.args.board.now in
    let low = c.loop-turn-test.false in
    let high = c.loop-turn.auto._turn-end in
    let end : c.loop-turn._turn ≡ c.args.left = omega (arith, low, high) in
    rounds_all b c.args.agent c.args.left (shows c.args.p.now) (shows c.loop-turn.p)
    (goes_is b c.args.agent c.loop-turn._turn c.args.left end c.loop-turn.invariant.goes)

pub returns-in_default-clause-few : goal.returns-in_default-clause-few
returns-in_default-clause-few g c =
    let low = c.loop-turn-test.true in
    rounds_within c.loop-turn._turn c.args.left (steps_a_round (board_bounds c.args.board.now)) _ _ (omega (arith, low)) c.loop-turn.invariant.few
