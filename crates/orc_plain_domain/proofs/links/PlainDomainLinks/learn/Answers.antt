use Rattle.orc_plain_domain.proofs.Learning.{learns, still_from, still_into}
use Rattle.orc_plain_domain.proofs.links.PlainDomainLinks.learn.Goals as goal

pub returns-clause-passes : goal.returns-clause-passes
returns-clause-passes g c = (
  still_into c.args.self.now c.args.into.now c.args.from.now c.requires.passes.0 c.requires.passes.1 c.learn.new.into c.learn.new.from
      c.learn.ensures.into c.learn.ensures.from c.learn.ensures.learns,
  still_from c.args.self.now c.args.into.now c.args.from.now c.requires.passes.0 c.requires.passes.1 c.learn.new.into c.learn.new.from
      c.learn.ensures.into c.learn.ensures.from c.learn.ensures.learns,
)

pub returns-clause-learned : goal.returns-clause-learned
returns-clause-learned g c =
    learns c.args.self.now c.args.into.now c.args.from.now c.requires.passes.0 c.requires.passes.1 c.learn.new.into c.learn.new.from
    c.learn.ensures.into c.learn.ensures.from c.learn.ensures.learns
