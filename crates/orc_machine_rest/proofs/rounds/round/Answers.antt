use Rattle.std.proofs.Common.{ap, arith, sym, ◌∙◌}
use Rattle.std.specs.Prelude.{is_some}
use Rattle.orc_machine_rest.proofs.Joins.{opens_goes, opens_then}
use Rattle.orc_machine_rest.specs.Passes.{agent_record, state_of}
use Rattle.orc_machine_board.specs.Views.{board_bounds, shows}
use Rattle.orc_rest.proofs.Rounds.{no_some, start_allowed}
use Rattle.orc_machine_rest.proofs.rounds.round.Goals as goal

pub settle_step-requires-clause-allowed : goal.settle_step-requires-clause-allowed
settle_step-requires-clause-allowed g c =
    let board = c.args.board.now in
    let a = c.args.agent in
    start_allowed (state_of board c.args.p.now) a c.args.row c.requires.pass.reached c.requires.pass.low c.requires.between
    c.requires.next
    (no_some (agent_record board a c.args.p.now).scan
    (ap is_some (sym c.kept.ensures.scan) ∙ (sym c.is_some.ensures ∙ c.if-is_some.false)))

pub returns-clause-opens : goal.returns-clause-opens
returns-clause-opens g c =
    let b = board_bounds c.args.board.now in
    let a = c.args.agent in
    opens_then b a 0 1 (c.settle_step.ensures.opens tt)
    (opens_goes b a 1 (shows c.settle_step.new.p) (shows c.scan_round-2.new.p) c.settle_step.ensures.pass.reached c.scan_round-2.ensures.opens)

pub returns-clause-few : goal.returns-clause-few
returns-clause-few g c =
    let one = c.settle_step.ensures.few in
    let two = c.scan_round-2.ensures.few in
    omega (arith, one, two)
