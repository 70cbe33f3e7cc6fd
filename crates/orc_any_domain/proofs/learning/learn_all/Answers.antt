-- All hold what they held, so they stay of other agents; and two rounds are enough.
use Rattle.orc_any_domain.proofs.Rounds.{round_same, still_differ, twice}
use Rattle.orc_any_domain.proofs.learning.learn_all.Goals as goal

pub learn_round-requires-2-clause-agents : goal.learn_round-requires-2-clause-agents
learn_round-requires-2-clause-agents g c =
    let seat = g.L.Links.seat c.args.links.now in
    let r = c.learn_round.ensures.steps in
    still_differ seat c.args.others.now c.learn_round.new.others c.args.first.now c.learn_round.new.first
    (round_same seat g.L.Links.agent_of g.L.Links.journal c.args.first.now c.learn_round.new.first c.args.others.now c.learn_round.new.others r)
    r.first.same c.requires.agents

pub returns-clause-steps : goal.returns-clause-steps
returns-clause-steps g c =
    twice (g.L.Links.seat c.args.links.now) g.L.Links.agent_of g.L.Links.journal c.args.first.now c.learn_round.new.first c.learn_round-2.new.first
    c.args.others.now c.learn_round.new.others c.learn_round-2.new.others c.learn_round.ensures.steps c.learn_round-2.ensures.steps

pub returns-clause-events : goal.returns-clause-events
returns-clause-events g c =
    let seat = g.L.Links.seat c.args.links.now in
    twice seat (λ e. e.agent) (λ p. (seat p).seen) c.args.first.now c.learn_round.new.first c.learn_round-2.new.first
    c.args.others.now c.learn_round.new.others c.learn_round-2.new.others c.learn_round.ensures.events c.learn_round-2.ensures.events
