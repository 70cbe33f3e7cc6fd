use Rattle.orc_pipeline.proofs.Seated.{is_agent, some_pass}
use Rattle.orc_pipeline.proofs.at_queues.AtQueuesWorkplace.agent.Goals as goal

pub agent_at-requires : goal.agent_at-requires
agent_at-requires g c = some_pass g.Q.SharedQueue _ _ _ _ _ c.in-Some.ensures.cases.0 c.requires.1

pub returns : goal.returns
returns g c = λ by usable. is_agent g.Q.SharedQueue _ _ _ _ _ _ c.in-Some.ensures.cases.0 c.agent_at.ensures usable
