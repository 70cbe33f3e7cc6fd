-- An agent's entries are those of its own events.
use Rattle.orc_heap.proofs.InJournal.{learned_entries}
use Rattle.orc_history.specs.SetHistory.{agent_of_set_entry}
use Rattle.orc_split_rule.proofs.OwnEntries.{entries_own}
use Rattle.orc_split_rule.specs.SplitDiscipline.{SplitMay, entries_in}
use Rattle.orc_split_set.proofs.set.SplitSetLearnSet.learn.Goals as goal

pub returns-clause-learned : goal.returns-clause-learned
returns-clause-learned g c =
    learned_entries g.L.Links entries_in agent_of_set_entry SplitMay entries_own _ _ _ _ _ c.learn.ensures.learned (g.met.L.Links.seen_is _)
    (g.met.L.Links.allowed _) c.requires.usable.0.0 c.requires.usable.1.0 c.learn.ensures.passes.0
