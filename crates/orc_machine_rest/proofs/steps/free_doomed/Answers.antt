use Rattle.std.proofs.Common.{ap, arith, sym, ◌≡◌}
use Rattle.std.specs.Prelude.{is_some}
use Rattle.orc_machine_rest.proofs.Joins.{goes_is, goes_then}
use Rattle.orc_machine_rest.proofs.Passes.{links_are}
use Rattle.orc_machine_rest.specs.Passes.{agent_record, state_of}
use Rattle.orc_machine_board.specs.Views.{board_bounds}
use Rattle.orc_rest.proofs.Calls.{free_bare, unretire_cut}
use Rattle.orc_words.specs.Packed.{bit}
use Rattle.orc_machine_rest.proofs.steps.free_doomed.Goals as goal

pub settle_step-requires-clause-allowed : goal.settle_step-requires-clause-allowed
settle_step-requires-clause-allowed g c =
    let board = c.args.board.now in
    let out = c.take_links_out.ensures in
    unretire_cut (state_of board c.take_links_out.new.p) c.args.agent c.args.row (board_bounds board).links
    (sym (links_are board c.take_links_out.new.p)) out.pass.reached out.pass.low out.still out.scan out.doom

pub settle_step-requires-2-clause-allowed : goal.settle_step-requires-2-clause-allowed
settle_step-requires-2-clause-allowed g c =
    let board = c.args.board.now in
    let out = c.take_links_out.ensures in
    free_bare (state_of board c.take_links_out.new.p) (state_of board c.settle_step.new.p) c.args.agent c.args.row (board_bounds board).links
    out.pass.reached out.pass.low out.still out.scan out.doom c.settle_step.ensures.goes.went.bounds c.settle_step.ensures.after

pub returns-clause-goes : goal.returns-clause-goes
returns-clause-goes g c =
    let b = board_bounds c.args.board.now in
    let a = c.args.agent in
    let d = agent_record c.args.board.now a c.take_links_out.new.p in
    let zero : bit (is_some d.scan) ≡ 0 = ap (λ o. bit (is_some o)) c.take_links_out.ensures.scan in
    goes_then b a 0 1 c.take_links_out.ensures.goes
    (goes_then b a 0 1 (goes_is b a (bit (is_some d.scan)) 0 zero c.settle_step.ensures.goes) c.settle_step-2.ensures.goes)

pub returns-clause-few : goal.returns-clause-few
returns-clause-few g c =
    let one = c.take_links_out.ensures.few in
    let two = c.settle_step.ensures.few in
    let three = c.settle_step-2.ensures.few in
    omega (arith, one, two, three)
