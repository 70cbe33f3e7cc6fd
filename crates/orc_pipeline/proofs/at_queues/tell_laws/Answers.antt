use Rattle.orc_pipeline.proofs.Known.{known_at}
use Rattle.orc_pipeline.proofs.at_queues.tell_laws.Goals as goal

pub returns : goal.returns
returns g c = λ agents are.
    known_at g.Q.SharedQueue g.Q.LearnQueue.agents (record {
      grows = g.met.Q.SharedQueue.grows;
      crowd = g.met.Q.LearnQueue.crowd_below;
      below = g.met.Q.LearnQueue.agents_below;
      legal = g.met.Q.SharedQueue.legal;
      many = g.met.Q.SharedQueue.many_puts;
    }) 0 agents _ _ are c.requires
