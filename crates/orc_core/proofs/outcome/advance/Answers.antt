use Rattle.orc_core.proofs.outcome.advance.Goals as goal

pub returns-in-LinkCas : goal.returns-in-LinkCas
returns-in-LinkCas c = rw c.in-LinkCas.is (c.link_swung.ensures c.in-LinkCas.place)
