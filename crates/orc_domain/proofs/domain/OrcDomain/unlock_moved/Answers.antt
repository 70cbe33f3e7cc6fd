use Rattle.orc_domain.proofs.domain.OrcDomain.unlock_moved.Goals as goal

pub unlock-requires-clause-allowed : goal.unlock-requires-clause-allowed
unlock-requires-clause-allowed g c = c.requires.allowed

pub returns-clause-unlocks : goal.returns-clause-unlocks
returns-clause-unlocks g c = c.unlock.ensures.unlocks
