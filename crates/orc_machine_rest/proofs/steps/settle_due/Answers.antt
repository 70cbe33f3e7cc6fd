use Rattle.std.proofs.Common.{arith, ◌∙◌}
use Rattle.orc_machine_rest.proofs.Joins.{goes_none}
use Rattle.orc_machine_rest.specs.Passes.{state_of}
use Rattle.orc_machine_board.specs.Views.{board_bounds, shows}
use Rattle.orc_rest.proofs.Stages.{due_allowed}
use Rattle.orc_machine_rest.proofs.steps.settle_due.Goals as goal

pub settle_step-requires-clause-allowed : goal.settle_step-requires-clause-allowed
settle_step-requires-clause-allowed g c =
    due_allowed (state_of c.args.board.now c.args.p.now) c.args.agent c.requires.pass.low c.requires.calm c.requires.dec
    c.in-Some.seen (c.requires.pending ∙ c.in-Some.is) c.requires.due

pub returns-in_default-clause-goes : goal.returns-in_default-clause-goes
returns-in_default-clause-goes g c =
    goes_none (board_bounds c.args.board.now) c.args.agent (shows c.args.p.now) c.requires.pass.reached

pub returns-in_default-clause-few : goal.returns-in_default-clause-few
returns-in_default-clause-few g c = omega arith
