use Rattle.std.proofs.Common.{ap, sym, ◌∙◌}
use Rattle.orc_core.specs.After.{due_after}
use Rattle.orc_core.specs.declared.records.Agent.{Agent}
use Rattle.orc_words.specs.Operations.{word_add}
use Rattle.orc_words.specs.declared.packed.TheConstants.{INCREMENT}
use Rattle.orc_domain.proofs.Counting.{counts_up, inc_can}
use Rattle.orc_domain.proofs.Ending.{stage_of}
use Rattle.orc_domain.proofs.domain.OrcDomain.count_up.Goals as goal

pub inc-word-requires-clause-allowed : goal.inc-word-requires-clause-allowed
inc-word-requires-clause-allowed g c =
    let s = stage_of c.requires.belongs in
    inc_can s c.args.row c.requires.countable c.requires.inc

pub returns-clause-becomes : goal.returns-clause-becomes
returns-clause-becomes g c =
    counts_up (stage_of c.requires.belongs) (stage_of c.inc-word.ensures.belongs) c.args.row c.inc-word.result c.requires.countable c.requires.inc
    c.inc-word.ensures.made (stage_of c.try_due.ensures.belongs) c.try_due.ensures.becomes

pub try_due-requires-clause-pending : goal.try_due-requires-clause-pending
try_due-requires-clause-pending g c =
    ap (λ (e : Agent). e.due) c.inc-word.ensures.made.record_is
    ∙ ((λ i. due_after c.args.row (word_add (sym c.inc-word.ensures.made.answer i) INCREMENT) (c.requires.countable.due i)) ∙ sym c.due_by.ensures)
