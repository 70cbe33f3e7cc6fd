use Rattle.std.proofs.Common.{arith}
use Rattle.orc_plain_domain.proofs.Draining.{agents_differ, all_again, first_of, idle_again, learned, no_longer, others_of, own_seen}
use Rattle.orc_plain_domain.proofs.domain.PlainDomain.drain_all.Goals as goal

pub learn_all-requires-clause-first : goal.learn_all-requires-clause-first
learn_all-requires-clause-first g c = first_of c.args.self.now c.args.passes.now c.in-Some.first.now c.in-Some.others.now c.in-Some.ensures.cases.0 c.requires.all

pub learn_all-requires-clause-others : goal.learn_all-requires-clause-others
learn_all-requires-clause-others g c = others_of c.args.self.now c.args.passes.now c.in-Some.first.now c.in-Some.others.now c.in-Some.ensures.cases.0 c.requires.all

pub learn_all-requires-clause-agents : goal.learn_all-requires-clause-agents
learn_all-requires-clause-agents g c = agents_differ c.args.self.now c.args.passes.now c.in-Some.first.now c.in-Some.others.now c.in-Some.ensures.cases.0 c.requires.all

pub returns-in-Some-clause-all : goal.returns-in-Some-clause-all
returns-in-Some-clause-all g c =
    all_again c.args.self.now c.args.passes.now c.in-Some.first.now c.in-Some.others.now c.in-Some.ensures.cases.0 c.requires.all
    c.learn_all.new.first c.learn_all.new.others c.learn_all.ensures.events c.learn_all.ensures.first c.learn_all.ensures.others

pub returns-in-Some-clause-idle : goal.returns-in-Some-clause-idle
returns-in-Some-clause-idle g c =
    idle_again c.args.self.now c.args.passes.now c.in-Some.first.now c.in-Some.others.now c.in-Some.ensures.cases.0 c.requires.all
    c.learn_all.new.first c.learn_all.new.others c.learn_all.ensures.events c.requires.idle

pub returns-in-Some-clause-own : goal.returns-in-Some-clause-own
returns-in-Some-clause-own g c =
    own_seen c.args.self.now c.args.passes.now c.in-Some.first.now c.in-Some.others.now c.in-Some.ensures.cases.0 c.requires.all
    c.learn_all.new.first c.learn_all.new.others c.learn_all.ensures.events

pub returns-in-Some-clause-learned : goal.returns-in-Some-clause-learned
returns-in-Some-clause-learned g c =
    learned c.args.self.now c.args.passes.now c.in-Some.first.now c.in-Some.others.now c.in-Some.ensures.cases.0 c.requires.all
    c.learn_all.new.first c.learn_all.new.others c.learn_all.ensures.events

pub returns-in-Some-clause-longest : goal.returns-in-Some-clause-longest
returns-in-Some-clause-longest g c =
    no_longer c.args.self.now c.args.passes.now c.in-Some.first.now c.in-Some.others.now c.in-Some.ensures.cases.0 c.requires.all
    c.learn_all.new.first c.learn_all.new.others c.learn_all.ensures.events

pub returns-in_default : goal.returns-in_default
returns-in_default g c =
    let many = c.requires.all.many in
    let some = c.args.self.now.board.words.shape.shape.some_agents in
    let none = c.in_default.ensures.cases in
    absurd (omega (arith, many, some, none))
