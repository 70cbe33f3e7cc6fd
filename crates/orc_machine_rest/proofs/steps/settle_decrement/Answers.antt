use Rattle.std.proofs.Common.{ap, arith, refl, sym, ◌∙◌, ◌≡◌}
use Rattle.std.specs.Prelude.{None}
use Rattle.orc_core.specs.After.{due_after}
use Rattle.orc_core.specs.declared.records.Agent.{Agent}
use Rattle.orc_words.specs.Operations.{word_add}
use Rattle.orc_words.specs.declared.packed.TheConstants.{DECREMENT}
use Rattle.orc_machine_rest.proofs.Joins.{goes_none, goes_then}
use Rattle.orc_machine_rest.specs.Passes.{agent_record, state_of}
use Rattle.orc_machine_board.specs.Views.{board_bounds, shows}
use Rattle.orc_rest.proofs.Calls.{arm_dec, dec_armed, due_decremented}
use Rattle.orc_machine_rest.proofs.steps.settle_decrement.Goals as goal

pub settle_step-requires-clause-allowed : goal.settle_step-requires-clause-allowed
settle_step-requires-clause-allowed g c =
    arm_dec (state_of c.args.board.now c.args.p.now) c.args.agent c.in-Some.row c.requires.pass.reached
    c.requires.pass.low c.requires.calm c.requires.zero c.requires.due
    (c.requires.pending ∙ c.in-Some.is)

pub settle_step-word-requires-clause-allowed : goal.settle_step-word-requires-clause-allowed
settle_step-word-requires-clause-allowed g c =
    dec_armed (state_of c.args.board.now c.args.p.now) (state_of c.args.board.now c.settle_step.new.p) c.args.agent c.in-Some.row
    c.requires.pass.reached c.requires.pass.low c.requires.calm c.requires.due
    (c.requires.pending ∙ c.in-Some.is)
    c.settle_step.ensures.goes.went.bounds c.settle_step.ensures.after

pub settle_due-requires-clause-due : goal.settle_due-requires-clause-due
settle_due-requires-clause-due g c =
    due_decremented (state_of c.args.board.now c.args.p.now) (state_of c.args.board.now c.settle_step.new.p)
    (state_of c.args.board.now c.settle_step-word.new.p)
    c.args.agent c.in-Some.row c.requires.pass.reached c.requires.due
    (c.requires.pending ∙ c.in-Some.is)
    c.settle_step.ensures.goes.went.bounds c.settle_step-word.ensures.goes.went.bounds c.settle_step.ensures.after c.settle_step-word.ensures.after

pub returns-in-Some-clause-goes : goal.returns-in-Some-clause-goes
returns-in-Some-clause-goes g c =
    let b = board_bounds c.args.board.now in
    let a = c.args.agent in
    goes_then b a 0 0 c.settle_step.ensures.goes
    (goes_then b a 0 0 c.settle_step-word.ensures.goes (goes_then b a 0 0 c.settle_due.ensures.goes c.leave_slot_zero.ensures.goes))

pub returns-in_default-clause-goes : goal.returns-in_default-clause-goes
returns-in_default-clause-goes g c =
    goes_none (board_bounds c.args.board.now) c.args.agent (shows c.args.p.now) c.requires.pass.reached

pub returns-in-Some-clause-few : goal.returns-in-Some-clause-few
returns-in-Some-clause-few g c =
    omega (arith, c.settle_step.ensures.few, c.settle_step-word.ensures.few, c.settle_due.ensures.few, c.leave_slot_zero.ensures.few)

pub returns-in_default-clause-few : goal.returns-in_default-clause-few
returns-in_default-clause-few g c = omega arith

pub settle_due-requires-clause-pending : goal.settle_due-requires-clause-pending
settle_due-requires-clause-pending g c =
    let before = agent_record c.args.board.now c.args.agent c.settle_step.new.p in
    let word = c.settle_step-word.result in
    let none : before.due ≡ None = ap (λ (e : Agent). e.due) c.settle_step.ensures.after.is ∙ c.requires.due in
    ap (λ (e : Agent). e.due) (c.settle_step-word.ensures.read refl)
    ∙ (ap (due_after c.in-Some.row (word_add word DECREMENT)) none ∙ sym c.due_by.ensures)
