use Rattle.orc_history.specs.QueueHistory.{agent_of_entry}
use Rattle.orc_history.specs.SetHistory.{agent_of_set_entry}
use Rattle.orc_team.proofs.Lessons.{learns_as}
use Rattle.orc_workers.proofs.CameBack.{for_each}
use Rattle.orc_workers.proofs.at_board.AtBoardWorkplace.learn.Goals as goal

pub returns-clause-learned : goal.returns-clause-learned
returns-clause-learned g c =
    let at = c.args.self.now in
    for_each _
    (learns_as (g.Q.SharedQueue.history at.queue.now) agent_of_entry _ _ _ _ _ _ _ _ c.requires.desk.queue_agent c.requires.more.queue_agent
    c.learn.ensures.learned)
    (learns_as (g.Q.SharedQueue.history at.rush.now) agent_of_entry _ _ _ _ _ _ _ _ c.requires.desk.rush_agent c.requires.more.rush_agent
    c.learn-2.ensures.learned)
    (learns_as (g.S.SharedSet.history at.set.now) agent_of_set_entry _ _ _ _ _ _ _ _ c.requires.desk.set_agent c.requires.more.set_agent
    c.learn-3.ensures.learned)
