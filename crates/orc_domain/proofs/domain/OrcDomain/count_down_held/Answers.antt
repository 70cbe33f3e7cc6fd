use Rattle.std.proofs.Common.{ap, sym, ◌∙◌}
use Rattle.orc_core.specs.After.{due_after}
use Rattle.orc_core.specs.declared.records.Agent.{Agent}
use Rattle.orc_words.specs.Operations.{word_add}
use Rattle.orc_words.specs.declared.packed.TheConstants.{DECREMENT}
use Rattle.orc_domain.proofs.Counting.{counts_down_held, dec_held_can}
use Rattle.orc_domain.proofs.Ending.{stage_of}
use Rattle.orc_domain.proofs.domain.OrcDomain.count_down_held.Goals as goal

pub dec_held-word-requires-clause-allowed : goal.dec_held-word-requires-clause-allowed
dec_held-word-requires-clause-allowed g c =
    let s = stage_of c.requires.belongs in
    dec_held_can s c.args.row c.requires.countable c.requires.inc c.requires.dec c.requires.held

pub returns-clause-becomes : goal.returns-clause-becomes
returns-clause-becomes g c =
    counts_down_held (stage_of c.requires.belongs) (stage_of c.dec_held-word.ensures.belongs) c.args.row c.dec_held-word.result c.requires.countable
    c.dec_held-word.ensures.made (stage_of c.try_due.ensures.belongs) c.try_due.ensures.becomes

pub try_due-requires-clause-pending : goal.try_due-requires-clause-pending
try_due-requires-clause-pending g c =
    ap (λ (e : Agent). e.due) c.dec_held-word.ensures.made.record_is
    ∙ ((λ i. due_after c.args.row (word_add (sym c.dec_held-word.ensures.made.answer i) DECREMENT) (c.requires.countable.due i)) ∙ sym c.due_by.ensures)
