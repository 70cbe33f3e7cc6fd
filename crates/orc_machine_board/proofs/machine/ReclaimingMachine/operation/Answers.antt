use Rattle.std.proofs.Common.{ap, subst, sym, ◌∙◌}
use Rattle.orc_core.proofs.Within.{may_packable, may_within}
use Rattle.orc_core.specs.declared.actions.Action.{Action}
use Rattle.orc_layout.specs.Layout.{index}
use Rattle.orc_machine_board.proofs.Keeping.{same_action, same_packable}
use Rattle.orc_shared_words.specs.Operations.{returned_by}
use Rattle.orc_words.specs.Bounds.{bounds_of}
use Rattle.orc_words.specs.Operations.{word_after}
use Rattle.orc_words.specs.Places.{IsWithin, place}
use Rattle.orc_machine_board.proofs.machine.ReclaimingMachine.operation.Goals as goal

pub action_of-action-requires : goal.action_of-action-requires
action_of-action-requires g c =
    let s = c.args.shape.now.shape in
    let op = c.args.op.now.op in
    let q = c.requires.allowed in
    same_packable op q.0 c.args.own.now q.1 (may_packable (bounds_of s) 0 c.args.agent op q.0 q.2.may s.few_rows s.low_limit)

pub word_index-requires : goal.word_index-requires
word_index-requires g c =
    let b = bounds_of c.args.shape.now.shape in
    let op = c.args.op.now.op in
    let q = c.requires.allowed in
    record {
      laid = c.args.shape.now.laid;
      within = rw c.action_of-action.ensures
          (subst (λ (z : Action). IsWithin b z.word) (same_action c.args.agent op q.0 c.args.own.now q.1)
          (may_within b 0 c.args.agent op q.0 q.2.may));
    }

pub returns-clause-index : goal.returns-clause-index
returns-clause-index g c = λ d tie allowed.
    let b = bounds_of c.args.shape.now.shape in
    c.word_index.ensures.index ∙ ap (λ (z : Action). index b (place b z.word))
    (c.action_of-action.ensures ∙ sym (same_action c.args.agent c.args.op.now.op d c.args.own.now tie))

pub returns-clause-written : goal.returns-clause-written
returns-clause-written g c = λ d tie allowed. ap (λ (z : Action). word_after z.operation)
    (c.action_of-action.ensures ∙ sym (same_action c.args.agent c.args.op.now.op d c.args.own.now tie))

pub returns-clause-answer : goal.returns-clause-answer
returns-clause-answer g c = λ d tie allowed. ap (λ (z : Action). returned_by z.operation)
    (c.action_of-action.ensures ∙ sym (same_action c.args.agent c.args.op.now.op d c.args.own.now tie))
