use Rattle.orc_board.specs.Stretches.{pick}
use Rattle.orc_team.proofs.Teams.{for_both}
use Rattle.orc_workers.proofs.at_board.tell_laws.Goals as goal

pub returns : goal.returns
returns g c =
    let queue = c.args.queue.now in
    let rush = c.args.rush.now in
    let set = c.args.set.now in
    let d = c.args.desk.now in
    let e = c.requires in
    record {
      queues_grow = λ b. g.met.Q.SharedQueue.grows (pick queue rush b);
      set_grows = g.met.S.SharedSet.grows set;
      queues_crowd = for_both _ (g.met.Q.LearnQueue.crowd_below queue) (g.met.Q.LearnQueue.crowd_below rush);
      set_crowd = g.met.S.LearnSet.crowd_below set;
      queues_below = for_both _ (g.met.Q.LearnQueue.agents_below queue d.queue e.queue_pass).1 (g.met.Q.LearnQueue.agents_below rush d.rush e.rush_pass).1;
      set_below = (g.met.S.LearnSet.agents_below set d.set e.set_pass).1;
      queues_legal = for_both _ (g.met.Q.SharedQueue.legal queue d.queue e.queue_pass) (g.met.Q.SharedQueue.legal rush d.rush e.rush_pass);
      set_legal = g.met.S.SharedSet.legal set d.set e.set_pass;
      many_puts = λ b agent seen from to h. g.met.Q.SharedQueue.many_puts (pick queue rush b) agent 64 seen from to h;
    }
