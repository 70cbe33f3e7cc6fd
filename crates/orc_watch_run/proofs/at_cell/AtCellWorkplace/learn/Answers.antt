use Rattle.orc_pairs_rule.specs.CellHistory.{agent_of_entry}
use Rattle.orc_pairs_rule.specs.PairsDiscipline.{entries_of}
use Rattle.orc_team.proofs.Lessons.{learns_as}
use Rattle.orc_watch_run.proofs.at_cell.AtCellWorkplace.learn.Goals as goal

pub returns-clause-learned : goal.returns-clause-learned
returns-clause-learned g c = λ one.
    learns_as (λ j. entries_of (g.L.Links.events c.args.self.now.cell.now.links j)) agent_of_entry _ _ _ _ _ _ _ _ c.requires.desk.agent_is
    c.requires.more.agent_is c.learn.ensures.learned
