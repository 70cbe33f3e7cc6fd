use Rattle.std.proofs.Common.{ap, arith, refl, sym, true, ◌∙◌, ◌≡◌}
use Rattle.std.specs.Prelude.{None, cond, is_some}
use Rattle.orc_machine_rest.proofs.Passes.{scans_some}
use Rattle.orc_core.specs.After.{due_after}
use Rattle.orc_words.specs.Operations.{word_sub}
use Rattle.orc_words.specs.declared.packed.TheConstants.{RETIRED}
use Rattle.orc_machine_rest.proofs.Joins.{goes_is, goes_then, opens_then}
use Rattle.orc_machine_rest.specs.Passes.{agent_record, state_of}
use Rattle.orc_core.specs.RecordParts.{scans}
use Rattle.orc_core.specs.declared.records.Agent.{Agent}
use Rattle.orc_machine_board.specs.Views.{board_bounds}
use Rattle.orc_rest.proofs.Calls.{arm_scanned, due_unretired, scan_some, unretire_armed}
use Rattle.orc_words.specs.Packed.{bit}
use Rattle.orc_machine_rest.proofs.steps.unretire_scanned.Goals as goal

pub settle_step-requires-clause-allowed : goal.settle_step-requires-clause-allowed
settle_step-requires-clause-allowed g c =
    arm_scanned (state_of c.args.board.now c.args.p.now) c.args.agent c.args.row c.requires.pass.reached
    c.requires.pass.low c.requires.still c.requires.scans c.requires.linked

pub settle_step-word-requires-clause-allowed : goal.settle_step-word-requires-clause-allowed
settle_step-word-requires-clause-allowed g c =
    unretire_armed (state_of c.args.board.now c.args.p.now) (state_of c.args.board.now c.settle_step.new.p) c.args.agent c.args.row
    c.requires.pass.reached c.requires.pass.low c.requires.still c.requires.scans
    c.requires.linked c.settle_step.ensures.goes.went.bounds c.settle_step.ensures.after

pub settle_due-requires-clause-due : goal.settle_due-requires-clause-due
settle_due-requires-clause-due g c =
    due_unretired (state_of c.args.board.now c.args.p.now) (state_of c.args.board.now c.settle_step.new.p)
    (state_of c.args.board.now c.settle_step-word.new.p) c.args.agent
    c.args.row c.requires.pass.reached c.requires.still c.requires.scans c.settle_step.ensures.goes.went.bounds
    c.settle_step-word.ensures.goes.went.bounds c.settle_step.ensures.after c.settle_step-word.ensures.after

pub returns-clause-opens : goal.returns-clause-opens
returns-clause-opens g c =
    let b = board_bounds c.args.board.now in
    let a = c.args.agent in
    let d = agent_record c.args.board.now a c.settle_step.new.p in
    let one : bit (is_some d.scan) ≡ 1 = scan_some d.scan c.args.row (ap (λ (e : Agent). scans e.scan c.args.row) c.settle_step.ensures.after.is
    ∙ c.requires.scans) in
    opens_then b a 0 1 (c.settle_step.ensures.opens tt)
    (goes_then b a 1 0 (goes_is b a (bit (is_some d.scan)) 1 one c.settle_step-word.ensures.goes)
    (goes_then b a 0 0 c.settle_due.ensures.goes c.leave_slot_zero.ensures.goes))

pub returns-clause-few : goal.returns-clause-few
returns-clause-few g c =
    omega (arith, c.settle_step.ensures.few, c.settle_step-word.ensures.few, c.settle_due.ensures.few, c.leave_slot_zero.ensures.few)

pub settle_due-requires-clause-pending : goal.settle_due-requires-clause-pending
settle_due-requires-clause-pending g c =
    let before = agent_record c.args.board.now c.args.agent c.settle_step.new.p in
    let row = c.args.row in
    let word = c.settle_step-word.result in
    let is = c.settle_step.ensures.after.is in
    let some : is_some before.scan ≡ true = scans_some before.scan row (ap (λ (e : Agent). scans e.scan row) is ∙ c.requires.scans) in
    let none : before.due ≡ None = ap (λ (e : Agent). e.due) is ∙ c.requires.still.due in
    ap (λ (e : Agent). e.due) (c.settle_step-word.ensures.read refl)
    ∙ ((λ i. cond (some i) (due_after row (word_sub word RETIRED) (none i)) (none i)) ∙ sym c.due_by.ensures)
