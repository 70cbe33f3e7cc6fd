-- One round goes on where the first pass has learned from the next one.
use Rattle.orc_any_domain.proofs.Rounds.{round_more, shares_events, shares_steps}
use Rattle.orc_any_domain.proofs.learning.+learn_round.Goals as goal

pub returns-clause-steps : goal.returns-clause-steps
returns-clause-steps g n c =
    let seat = g.L.Links.seat c.args.links.now in
    round_more seat g.L.Links.agent_of g.L.Links.journal c.args.first.now c.learn.new.into c.learn_round.new.first c.in-Some.next.now c.learn.new.from
    c.in-Some.rest.now c.learn_round.new.others c.args.others.now c.in-Some.ensures.cases.0
    (shares_steps seat g.L.Links.agent_of g.L.Links.journal c.args.first.now c.in-Some.next.now c.learn.new.into c.learn.new.from c.learn.ensures.learned)
    c.learn_round.ensures.steps

pub returns-clause-events : goal.returns-clause-events
returns-clause-events g n c =
    let seat = g.L.Links.seat c.args.links.now in
    round_more seat (λ e. e.agent) (λ p. (seat p).seen) c.args.first.now c.learn.new.into c.learn_round.new.first c.in-Some.next.now c.learn.new.from
    c.in-Some.rest.now c.learn_round.new.others c.args.others.now c.in-Some.ensures.cases.0
    (shares_events seat g.L.Links.agent_of g.L.Links.journal c.args.first.now c.in-Some.next.now c.learn.new.into c.learn.new.from c.learn.ensures.learned)
    c.learn_round.ensures.events
