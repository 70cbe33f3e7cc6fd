use Rattle.orc_domain.proofs.Held.{above_one}
use Rattle.orc_domain.specs.Passes.{domain_bounds}
use Rattle.orc_domain.proofs.links.OrcDomainLinks.aim_side.Goals as goal

pub aim_link-requires-clause-number : goal.aim_link-requires-clause-number
aim_link-requires-clause-number g c = above_one (domain_bounds c.args.self.now).links c.requires.two

pub aim_link-requires-clause-may : goal.aim_link-requires-clause-may
aim_link-requires-clause-may g c = record { fresh = c.requires.fresh; target = c.requires.target; allowed = c.requires.allowed }

pub returns-clause-aimed : goal.returns-clause-aimed
returns-clause-aimed g c = c.aim_link.ensures.aimed
