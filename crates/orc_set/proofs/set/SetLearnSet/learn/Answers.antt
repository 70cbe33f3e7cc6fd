-- An agent's entries are those of its own events.
use Rattle.std.proofs.Common.{subst, sym}
use Rattle.orc_history.specs.Journals.{LearnsEntries}
use Rattle.orc_history.specs.SetHistory.{agent_of_set_entry}
use Rattle.orc_chain_rule.specs.ChainDiscipline.{ChainMay, entries_in, entries_of}
use Rattle.orc_chain_rule.proofs.OwnEntries.{entries_own}
use Rattle.orc_heap.proofs.InJournal.{learned_entries}
use Rattle.orc_set.proofs.set.SetLearnSet.learn.Goals as goal

pub returns-clause-learned : goal.returns-clause-learned
returns-clause-learned g c =
    let d = c.links.result.now in
    let same = c.links.ensures in
    let p1 = c.args.into.now in
    let p2 = c.args.from.now in
    let q1 = c.learn.new.into in
    let q2 = c.learn.new.from in
    let e = c.learn.ensures in
    let pass1 = subst (λ z. g.L.Links.belongs z p1) (sym same) c.requires.usable.0.0 in
    let pass2 = subst (λ z. g.L.Links.belongs z p2) (sym same) c.requires.usable.1.0 in
    subst (λ z. LearnsEntries (λ j. entries_of (g.L.Links.events z j)) agent_of_set_entry (g.L.Links.seat z p1).agent (g.L.Links.seat z p2).agent
    (g.L.Links.journal p1) (g.L.Links.journal p2) (g.L.Links.journal q1) (g.L.Links.journal q2)) same
    (learned_entries g.L.Links entries_in agent_of_set_entry ChainMay entries_own d _ _ _ _ e.learned (g.met.L.Links.seen_is d) (g.met.L.Links.allowed d)
    pass1 pass2 e.passes.0)
