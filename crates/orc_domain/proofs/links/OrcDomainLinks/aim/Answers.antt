use Rattle.orc_domain.proofs.links.OrcDomainLinks.aim.Goals as goal

pub aim_link-requires-clause-number : goal.aim_link-requires-clause-number
aim_link-requires-clause-number g c = c.args.self.now.board.words.shape.shape.some_links
