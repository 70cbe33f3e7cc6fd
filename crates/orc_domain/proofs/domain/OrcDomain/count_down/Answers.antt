use Rattle.std.proofs.Common.{None, ap, sym, ◌∙◌, ◌≡◌}
use Rattle.orc_core.specs.After.{due_after}
use Rattle.orc_core.specs.declared.records.Agent.{Agent}
use Rattle.orc_words.specs.Operations.{word_add}
use Rattle.orc_words.specs.declared.packed.TheConstants.{DECREMENT}
use Rattle.orc_machine_board.specs.Views.{shows}
use Rattle.orc_domain.proofs.Counting.{arm_can, counts_down, dec_can, down_clear}
use Rattle.orc_domain.proofs.Ending.{stage_of}
use Rattle.orc_domain.proofs.domain.OrcDomain.count_down.Goals as goal

pub arm-requires-clause-allowed : goal.arm-requires-clause-allowed
arm-requires-clause-allowed g c =
    let s = stage_of c.requires.belongs in
    arm_can s c.args.row c.requires.countable c.requires.inc c.requires.dec

pub dec-word-requires-clause-allowed : goal.dec-word-requires-clause-allowed
dec-word-requires-clause-allowed g c =
    let q = c.requires in
    dec_can (stage_of q.belongs) (stage_of c.arm.ensures.belongs) c.args.row c.arm.result q.countable q.inc q.dec c.arm.ensures.made

pub unlock-requires-clause-allowed : goal.unlock-requires-clause-allowed
unlock-requires-clause-allowed g c =
    let q = c.requires in
    down_clear (stage_of q.belongs) (stage_of c.arm.ensures.belongs) c.args.row c.arm.result q.countable q.inc q.dec c.arm.ensures.made
    (stage_of c.dec-word.ensures.belongs) c.dec-word.result c.dec-word.ensures.made (stage_of c.try_due.ensures.belongs) c.try_due.ensures.becomes

pub returns-clause-becomes : goal.returns-clause-becomes
returns-clause-becomes g c =
    let q = c.requires in
    counts_down (stage_of q.belongs) (stage_of c.arm.ensures.belongs) c.args.row c.arm.result q.countable q.inc q.dec c.arm.ensures.made
    (stage_of c.dec-word.ensures.belongs) c.dec-word.result c.dec-word.ensures.made (stage_of c.try_due.ensures.belongs) c.try_due.ensures.becomes
    (stage_of c.unlock.ensures.belongs) c.unlock.ensures.unlocks

pub try_due-requires-clause-pending : goal.try_due-requires-clause-pending
try_due-requires-clause-pending g c =
    let m = c.dec-word.ensures.made in
    let none : (shows c.arm.new.p).record_is.due ≡ None = ap (λ (e : Agent). e.due) c.arm.ensures.made.record_is ∙ c.requires.countable.due in
    ap (λ (e : Agent). e.due) m.record_is
    ∙ ((λ i. due_after c.args.row (word_add (sym m.answer i) DECREMENT) (none i)) ∙ sym c.due_by.ensures)
