use Rattle.orc_domain.proofs.domain.OrcDomain.learn_from_all.Goals as goal

pub learn_all-requires-clause-first : goal.learn_all-requires-clause-first
learn_all-requires-clause-first g c = c.requires.first

pub learn_all-requires-clause-others : goal.learn_all-requires-clause-others
learn_all-requires-clause-others g c = c.requires.others

pub learn_all-requires-clause-agents : goal.learn_all-requires-clause-agents
learn_all-requires-clause-agents g c = c.requires.agents

pub returns-clause-first : goal.returns-clause-first
returns-clause-first g c = c.learn_all.ensures.first

pub returns-clause-others : goal.returns-clause-others
returns-clause-others g c = c.learn_all.ensures.others

pub returns-clause-steps : goal.returns-clause-steps
returns-clause-steps g c = c.learn_all.ensures.steps
